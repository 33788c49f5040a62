-- The reading by a key is the plain one where the tenant's name has to be there, or is.
use Rattle.std.proofs.Common.{◌≡◌, ℕ, List, Some, Result, Ok, Err, refl, sym, ap, ◌∙◌}
use Rattle.std.specs.Prelude.{codes}
use Rattle.serde_json.specs.Data.{Data}
use Rattle.serde_json.specs.Find.{get}
use Rattle.sessions.specs.Grammar.{Asked, account_from, form_from, grant_from, request_from, submit_from, tenant_at}
use Rattle.sessions.specs.Answers.{Hears, IsUnreadable, PayloadAnswer}
use Rattle.sessions.specs.Answers as plain
use Rattle.sessions.specs.OwnNames.{HearsBy, IsUnreadableBy, PayloadAnswerBy, account_by, form_by, grant_by, name_or_empty, request_by, submit_by, tenant_by}
use Rattle.sessions.specs.OwnNames as own
use Rattle.sessions.specs.declared.fault.SessionFault.{SessionFault}
use Rattle.sessions.specs.declared.fault.SessionFault.TheVariants.{FrameTooLarge, NotJson, BadRequest, NoMemory}
use Rattle.sessions.specs.declared.request.Request.{Request}
use Rattle.sessions.specs.declared.tenant_key.TenantKey.{TenantKey}
use Rattle.sessions.specs.declared.tenant_key.TenantKey.TheVariants.{Required, Optional}

pub same_reading : (key : TenantKey) (d : Data) → tenant_by key d ≡ tenant_at d → request_by key d ≡ request_from d
unfolding grant_by account_by submit_by form_by request_by grant_from account_from submit_from form_from request_from
same_reading key d same = rw same refl

pub same_name : (key : TenantKey) (d value : Data) → get (codes "tenant") d ≡ Some value → tenant_by key d ≡ tenant_at d
same_name Required d value there = refl
same_name Optional d value there = ap (λ found. name_or_empty found d) there

pub named_reading : (key : TenantKey) (d value : Data) → get (codes "tenant") d ≡ Some value → request_by key d ≡ request_from d
named_reading key d value there = same_reading key d (same_name key d value there)

pub plain_answer : (r : Result Request SessionFault) (payload : List ℕ) → PayloadAnswerBy Required r payload → PayloadAnswer r payload
plain_answer (Ok request) payload h = (h.0, h.1, sym (same_reading Required h.0 refl) ∙ h.2)
plain_answer (Err FrameTooLarge) payload h = absurd h
plain_answer (Err NotJson) payload h = h
plain_answer (Err BadRequest) payload h = (h.0, h.1, sym (same_reading Required h.0 refl) ∙ h.2)
plain_answer (Err NoMemory) payload h = tt

pub plain_hearing : (payload : List ℕ) (query : Result Asked ℕ) → HearsBy Required payload query → Hears payload query
plain_hearing payload (Ok question) h = (h.0, h.1, sym (same_reading Required h.0 refl) ∙ h.2)
plain_hearing payload (Err code) (own.not_json none) = plain.not_json none
plain_hearing payload (Err code) (own.not_request d reads none) = plain.not_request d reads (sym (same_reading Required d refl) ∙ none)

pub hears_required : (payload : List ℕ) (query : Result Asked ℕ) → Hears payload query → HearsBy Required payload query
hears_required payload (Ok question) h = (h.0, h.1, same_reading Required h.0 refl ∙ h.2)
hears_required payload (Err code) (plain.not_json none) = own.not_json none
hears_required payload (Err code) (plain.not_request d reads none) = own.not_request d reads (same_reading Required d refl ∙ none)
