use Rattle.std.proofs.Common.{take}
use Rattle.std.specs.Fmt.{HasWritten, IsPlainFormatter}
use Rattle.run_trace.specs.TreeTexts.{nodes_text}
use Rattle.run_trace.proofs.tree_drawing.NodesDisplay.fmt.Given as goal

abbrev pub invariant-loop-finished : goal.invariant-loop-finished
invariant-loop-finished g l =
    IsPlainFormatter l.initial.f → HasWritten g.W.Write.write_str_gives l.initial.f (nodes_text (take l.finished-index l.self.0.now)) l.f
