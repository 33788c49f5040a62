-- When a task doesn't go on.
use Rattle.std.specs.Prelude.{◌≡◌, ◌≢◌, ℕ, true, false}
use Rattle.yielding.specs.declared.go_fault.GoFault.{GoFault}
use Rattle.yielding.specs.declared.go_fault.GoFault.TheVariants.{Ended, OtherLength}
use Rattle.yielding.specs.declared.phase.Phase.{Phase}
use Rattle.yielding.specs.Standing.{has_ended}

abbrev pub code_of_go_fault : GoFault → ℕ
code_of_go_fault Ended = 47
code_of_go_fault (OtherLength wanted given) = 43

-- the task has ended, or else its memory has another length than at its start
abbrev pub StaysAt : Phase → ℕ → ℕ → GoFault → Type 0
StaysAt phase len long Ended = has_ended phase ≡ true
StaysAt phase len long (OtherLength wanted given) =
    (has_ended phase ≡ false) × (long ≢ len) × (wanted ≡ len) × (given ≡ long)
