-- Which request a JSON value is where the tenant's name may be left out.
use Rattle.std.specs.Prelude.{◌≡◌, ℕ, List, [], if◌then◌else◌, Option, Some, None, Result, Ok, Err, option_map, option_and_then, codes}
use Rattle.std.specs.Str.{bytes_eq}
use Rattle.serde_json.specs.Data.{Data}
use Rattle.serde_json.specs.Find.{get}
use Rattle.sessions.specs.Grammar.{Asked, ReadsJson, grant, account, submit, job_from, number_at_key, request_asked, result_from, status_from, tenant_at, text_at_key}
use Rattle.sessions.specs.declared.fault.SessionFault.{SessionFault}
use Rattle.sessions.specs.declared.fault.SessionFault.TheVariants.{FrameTooLarge, NotJson, BadRequest, NoMemory}
use Rattle.sessions.specs.declared.request.Request.{Request}
use Rattle.sessions.specs.declared.tenant_key.TenantKey.{TenantKey}
use Rattle.sessions.specs.declared.tenant_key.TenantKey.TheVariants.{Required, Optional}

-- the tenant's name, by what stands at `tenant`; the empty name where nothing does
abbrev pub name_or_empty : Option Data → Data → Option (List ℕ)
name_or_empty None d = Some []
name_or_empty (Some value) d = tenant_at d

-- the tenant's name; where it may be left out and is, the empty name
abbrev pub tenant_by : TenantKey → Data → Option (List ℕ)
tenant_by Required d = tenant_at d
tenant_by Optional d = name_or_empty (get (codes "tenant") d) d

unfoldable pub grant_by : TenantKey → Data → Option Asked
grant_by key d =
    option_and_then (λ name. option_map (grant name)
    (number_at_key (codes "amount") 1 2147483647 d))
    (tenant_by key d)

unfoldable pub account_by : TenantKey → Data → Option Asked
account_by key d = option_map account (tenant_by key d)

unfoldable pub submit_by : TenantKey → Data → Option Asked
submit_by key d = option_and_then (λ name. option_map (submit name) (job_from d)) (tenant_by key d)

-- the form that an `op` names
unfoldable pub form_by : TenantKey → List ℕ → Data → Option Asked
form_by key op d =
    if bytes_eq op (codes "grant") then grant_by key d
    else (if bytes_eq op (codes "account") then account_by key d
    else (if bytes_eq op (codes "submit") then submit_by key d
    else (if bytes_eq op (codes "status") then status_from d
    else (if bytes_eq op (codes "result") then result_from d else None))))

unfoldable pub request_by : TenantKey → Data → Option Asked
request_by key d = option_and_then (λ op. form_by key op d) (text_at_key (codes "op") d)

-- no such request stands in the payload, and the number of the refusal that says why
pub data IsUnreadableBy (key : TenantKey) (payload : List ℕ) : ℕ → Type 0 where
  not_json : ((d : Data) → ReadsJson payload d → ⊥) → IsUnreadableBy key payload 72
  not_request : (d : Data) → ReadsJson payload d → request_by key d ≡ None
      → IsUnreadableBy key payload 73

-- what a payload asks, or the number of the refusal
abbrev pub HearsBy : TenantKey → List ℕ → Result Asked ℕ → Type 0
HearsBy key payload (Ok question) =
    (d : Data) × ReadsJson payload d × (request_by key d ≡ Some question)
HearsBy key payload (Err code) = IsUnreadableBy key payload code

abbrev pub PayloadAnswerBy : TenantKey → Result Request SessionFault → List ℕ → Type 0
PayloadAnswerBy key (Ok request) payload =
    (d : Data) × ReadsJson payload d × (request_by key d ≡ Some (request_asked request))
PayloadAnswerBy key (Err FrameTooLarge) payload = ⊥
PayloadAnswerBy key (Err NotJson) payload = (d : Data) → ReadsJson payload d → ⊥
PayloadAnswerBy key (Err BadRequest) payload =
    (d : Data) × ReadsJson payload d × (request_by key d ≡ None)
PayloadAnswerBy key (Err NoMemory) payload = Unit {0}
