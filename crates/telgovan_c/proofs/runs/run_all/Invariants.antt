use Rattle.std.proofs.Common.{length, ◌-◌, ◌≡◌, ℕ, ◌≤◌}
use Rattle.std.specs.Prelude.{slice_get}
use Rattle.telgovan_c.specs.Runs.{RunInTurn}
use Rattle.telgovan_c.proofs.runs.run_all.Given as goal

-- the runs before this one are told, and the others are as they were asked
abbrev pub invariant-loop-done : goal.invariant-loop-done
invariant-loop-done l =
    (l.done ≤ length l.initial.runs) × (length l.runs ≡ length l.initial.runs)
    × ((k : ℕ) → l.done ≤ k → slice_get l.runs k ≡ slice_get l.initial.runs k)
    × RunInTurn l.program l.credit l.initial.memory l.initial.runs l.runs l.done l.memory

abbrev pub decreases-loop-done : goal.decreases-loop-done
decreases-loop-done l = length l.initial.runs - l.done
