use Rattle.std.proofs.Common.{length, ◌-◌, ◌≤◌}
use Rattle.std.specs.Prelude.{string_bytes}
use Rattle.telgovan_c.specs.Traces.{AreLines}
use Rattle.telgovan_c.proofs.job_traces.job_lines.Given as goal

-- the steps before this one are told
abbrev pub invariant-loop-done : goal.invariant-loop-done
invariant-loop-done l = (l.done ≤ length l.steps) × AreLines l.done (string_bytes l.text)

abbrev pub decreases-loop-done : goal.decreases-loop-done
decreases-loop-done l = length l.steps - l.done
