use Rattle.std.proofs.Common.{◌≡◌, string_bytes, take}
use Rattle.bpfjobs_cli.specs.Lines.{job_step_lines}
use Rattle.bpfjobs_cli.proofs.view_texts.step_lines.Given as goal

abbrev pub invariant-loop-step : goal.invariant-loop-step
invariant-loop-step l = string_bytes l.text ≡ job_step_lines (take l.step-index l.steps)
