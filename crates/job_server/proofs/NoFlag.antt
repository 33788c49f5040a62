-- A stream that no flag stops.
use Rattle.std.proofs.Common.{◌≡◌, ◌∙◌, sym, refl, Bool, true, false, is_some, ℕ, List, Option, None, Some}
use Rattle.std.proofs.lemmas.Bool.{false≢true}
use Rattle.std.specs.Io.KnownBytes.{IsAtEnd}
use Rattle.job_server.specs.Stopping.{left_unless}

-- stopped there is a flag, and nothing is known of the bytes
pub end_if_stopped : {A : Type 0} (stop : Option A) (left : Option (List ℕ)) (is : Bool)
    → (is_some stop ≡ false → is ≡ false) → is ≡ true → IsAtEnd (left_unless stop left)
end_if_stopped None left is none stopped = absurd (false≢true (sym (none refl) ∙ stopped))
end_if_stopped (Some flag) left is none stopped = tt
