use Rattle.std.proofs.Common.{take}
use Rattle.std.specs.Fmt.{HasWritten, IsPlainFormatter}
use Rattle.run_trace.specs.StepTexts.{changes_text}
use Rattle.run_trace.proofs.telling.ChangesDisplay.fmt.Given as goal

abbrev pub invariant-loop-change : goal.invariant-loop-change
invariant-loop-change g l =
    IsPlainFormatter l.initial.f → HasWritten g.W.Write.write_str_gives l.initial.f (changes_text (take l.change-index l.self.0.now)) l.f
