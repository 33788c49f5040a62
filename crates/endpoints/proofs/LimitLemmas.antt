-- Calls that keep to the time that is due.
use Rattle.std.proofs.Common.{◌≡◌, ◌∙◌, ap, subst, ℕ, Bool, Option}
use Rattle.std.specs.declared.time.Instant.{Instant}
use Rattle.endpoints.specs.Limits.{IsTimeLeft, TriesUntil, capped_wait, once_more}

-- one try more, that waited as long as it was given
pub one_more : {C S : Type 0} (tells : C → S → Instant → Type 0) (clock : C) (tries : S → Option ℕ → S → Type 0) (due : Option Instant) (may_stop b : Bool) (first s t : S) (left wait : Option ℕ)
    → TriesUntil tells clock tries due may_stop first s → IsTimeLeft tells clock s due left → wait ≡ capped_wait left b → b ≡ may_stop → tries s wait t
    → TriesUntil tells clock tries due may_stop first t
one_more tells clock tries due may_stop b first s t left wait so_far is_left waits flag tried =
    once_more s t left so_far is_left (subst (λ (w : Option ℕ). tries s w t) (waits ∙ ap (capped_wait left) flag) tried)
