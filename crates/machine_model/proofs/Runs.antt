-- A run with one more move.
use Rattle.std.proofs.Common.{◌≡◌, List, [], ◌∷◌, ◌++◌, refl, Option, Some, None, option_and_then}
use Rattle.machine_model.specs.Machine.{Program}
use Rattle.machine_model.specs.JobState.{JobState, Move, run, step}

then_run : (programs : List Program) (o : Option JobState) (ms : List Move) (m : Move) →
    ((j : JobState) → run programs j (ms ++ m ∷ []) ≡ option_and_then (λ k. step programs k m.number m.refuses) (run programs j ms)) →
    option_and_then (λ j. run programs j (ms ++ m ∷ [])) o ≡ option_and_then (λ k. step programs k m.number m.refuses) (option_and_then (λ j. run programs j ms) o)
then_run programs None ms m each = refl
then_run programs (Some j) ms m each = each j

-- a chain with nothing after it
only : (o : Option JobState) → option_and_then (λ j. Some j) o ≡ o
only None = refl
only (Some j) = refl

pub run-push : (programs : List Program) (j : JobState) (ms : List Move) (m : Move) →
    run programs j (ms ++ m ∷ []) ≡ option_and_then (λ k. step programs k m.number m.refuses) (run programs j ms)
run-push programs j [] m = only (step programs j m.number m.refuses)
run-push programs j (n ∷ ns) m = then_run programs (step programs j n.number n.refuses) ns m (λ k. run-push programs k ns m)
