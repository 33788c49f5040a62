use Rattle.std.proofs.Common.{◌≡◌, string_bytes, take}
use Rattle.bpfrun_core.specs.Lines.{step_lines}
use Rattle.bpfrun_core.proofs.tracing.step_lines.Given as goal

abbrev pub invariant-loop-step : goal.invariant-loop-step
invariant-loop-step l = string_bytes l.text ≡ step_lines (take l.step-index l.steps)
