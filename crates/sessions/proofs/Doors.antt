-- What is read of a payload at a door.
use Rattle.std.proofs.Common.{◌≡◌, ℕ, List, Option, Some, None, Result, Ok, Err, sym, subst}
use Rattle.std.specs.Prelude.{MatchResult}
use Rattle.serde_json.specs.Data.{Data}
use Rattle.sessions.specs.DoorForms.{AsksBeyond, ReadsPlainly, beyond_from, no_form}
use Rattle.sessions.specs.Grammar.{ReadsJson, request_asked}
use Rattle.sessions.specs.OwnNames.{HearsBy, IsUnreadableBy, not_json, not_request, request_by}
use Rattle.sessions.specs.declared.door_forms.DoorForm.{DoorForm}
use Rattle.sessions.specs.declared.door_forms.DoorForms.{DoorForms}
use Rattle.sessions.specs.declared.request.Request.{Request}
use Rattle.sessions.specs.declared.tenant_key.TenantKey.{TenantKey}

pub plain_read : (key other : TenantKey) (payload : List ℕ) (d : Data) (r : Result Request ℕ) → other ≡ key → ReadsJson payload d
    → MatchResult r (λ request. request_by other d ≡ Some (request_asked request)) (λ code. (code ≡ 73) × (request_by other d ≡ None)) → ReadsPlainly key payload r
plain_read key other payload d (Ok request) same reads is =
    (d, reads, subst (λ (k : TenantKey). request_by k d ≡ Some (request_asked request)) same is)
plain_read key other payload d (Err code) same reads is =
    subst (λ (c : ℕ). HearsBy key payload (Err c)) (sym is.0) (not_request d reads (subst (λ (k : TenantKey). request_by k d ≡ None) same is.1))

pub beyond_read : (forms : DoorForms) (payload : List ℕ) (d : Data) (o : Option DoorForm) → ReadsJson payload d → o ≡ beyond_from forms d → AsksBeyond forms payload o
beyond_read forms payload d None reads is = no_form d reads (sym is)
beyond_read forms payload d (Some form) reads is = (d, reads, sym is)

pub unreadable : (key : TenantKey) (payload : List ℕ) (code : ℕ) → code ≡ 72 → ((d : Data) → ReadsJson payload d → ⊥) → IsUnreadableBy key payload code
unreadable key payload code is none = subst (λ (c : ℕ). IsUnreadableBy key payload c) (sym is) (not_json none)
