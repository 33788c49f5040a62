-- What some doors hear beyond the plain protocol.
use Rattle.std.specs.Prelude.{◌≡◌, ℕ, List, true, false, if◌then◌else◌, Option, Some, None, Result, Ok, Err, option_map, option_and_then, codes}
use Rattle.std.specs.Str.{bytes_eq}
use Rattle.serde_json.specs.Data.{Data}
use Rattle.serde_json.specs.Find.{as_str, get}
use Rattle.sessions.specs.Grammar.{ReadsJson, is_job_key, number_between, request_asked, text_at_key}
use Rattle.sessions.specs.OwnNames.{HearsBy}
use Rattle.sessions.specs.declared.door_forms.DoorForm.{DoorForm}
use Rattle.sessions.specs.declared.door_forms.DoorForm.TheVariants.{Jobs, Keyed, Server}
use Rattle.sessions.specs.declared.door_forms.DoorForms.{DoorForms}
use Rattle.sessions.specs.declared.door_forms.DoorForms.TheVariants.{Plain, OwnDoor, Granter}
use Rattle.sessions.specs.declared.request.Request.{Request}
use Rattle.sessions.specs.declared.tenant_key.TenantKey.{TenantKey}
use Rattle.sessions.specs.declared.tenant_key.TenantKey.TheVariants.{Required, Optional}

-- whether the plain protocol's requests have to name their tenant there
abbrev pub key_of : DoorForms → TenantKey
key_of Plain = Required
key_of OwnDoor = Optional
key_of Granter = Required

-- the number that a listing begins with, by what stands at `from`: 1 where nothing does
abbrev pub first_listed : Option Data → Option ℕ
first_listed None = Some 1
first_listed (Some d) = number_between 1 18446744073709551615 d

unfoldable pub jobs_from : Data → Option DoorForm
jobs_from d = option_map Jobs (first_listed (get (codes "from") d))

-- the key that a value is, if it is one
unfoldable pub job_key_from : Data → Option (List ℕ)
job_key_from d = option_and_then (λ text. if is_job_key text then Some text else None) (as_str d)

-- a submit by what stands at `key`, if something does
abbrev pub keyed_by : Option Data → Option DoorForm
keyed_by None = None
keyed_by (Some d) = Some (Keyed (job_key_from d))

unfoldable pub keyed_from : Data → Option DoorForm
keyed_from d = keyed_by (get (codes "key") d)

-- The request of a tenant's own door that an `op` names. A submit is one where it has a key.
unfoldable pub own_form : List ℕ → Data → Option DoorForm
own_form op d =
    if bytes_eq op (codes "jobs") then jobs_from d
    else (if bytes_eq op (codes "submit") then keyed_from d else None)

-- the request of the door for grants that an `op` names
abbrev pub granter_form : List ℕ → Option DoorForm
granter_form op =
    if bytes_eq op (codes "server") then Some (Server false)
    else (if bytes_eq op (codes "stop") then Some (Server true) else None)

-- what is asked beyond the plain protocol, if something is
unfoldable pub beyond_from : DoorForms → Data → Option DoorForm
beyond_from Plain d = None
beyond_from OwnDoor d = option_and_then (λ op. own_form op d) (text_at_key (codes "op") d)
beyond_from Granter d = option_and_then granter_form (text_at_key (codes "op") d)

-- a payload asks nothing beyond the plain protocol
pub data AsksPlainly (forms : DoorForms) (payload : List ℕ) : Type 0 where
  not_json : ((d : Data) → ReadsJson payload d → ⊥) → AsksPlainly forms payload
  no_form : (d : Data) → ReadsJson payload d → beyond_from forms d ≡ None
      → AsksPlainly forms payload

-- what a payload asks beyond the plain protocol, if it does
abbrev pub AsksBeyond : DoorForms → List ℕ → Option DoorForm → Type 0
AsksBeyond forms payload None = AsksPlainly forms payload
AsksBeyond forms payload (Some form) =
    (d : Data) × ReadsJson payload d × (beyond_from forms d ≡ Some form)

-- what is read of a payload by the plain protocol: a request, or the number of the refusal
abbrev pub ReadsPlainly : TenantKey → List ℕ → Result Request ℕ → Type 0
ReadsPlainly key payload (Ok request) = HearsBy key payload (Ok (request_asked request))
ReadsPlainly key payload (Err code) = HearsBy key payload (Err code)
