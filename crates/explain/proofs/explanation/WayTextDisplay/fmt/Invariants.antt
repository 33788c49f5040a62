use Rattle.std.proofs.Common.{take}
use Rattle.std.specs.Fmt.{HasWritten, IsPlainFormatter}
use Rattle.explain.specs.Texts.{way_text}
use Rattle.explain.proofs.explanation.WayTextDisplay.fmt.Given as goal

abbrev pub invariant-loop-slot : goal.invariant-loop-slot
invariant-loop-slot g l =
    IsPlainFormatter l.initial.f → HasWritten g.W.Write.write_str_gives l.initial.f (way_text (take l.slot-index l.self.0.now)) l.f
