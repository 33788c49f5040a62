use Rattle.std.proofs.Common.{take}
use Rattle.std.specs.Fmt.{HasWritten, IsPlainFormatter}
use Rattle.run_trace.specs.TreeTexts.{numbers_text}
use Rattle.run_trace.proofs.tree_drawing.SlashedNumbersDisplay.fmt.Given as goal

abbrev pub invariant-loop-number : goal.invariant-loop-number
invariant-loop-number g l =
    IsPlainFormatter l.initial.f → HasWritten g.W.Write.write_str_gives l.initial.f (numbers_text (take l.number-index l.self.0.now)) l.f
