use Rattle.std.proofs.Common.{◌<◌, length, arith}
use Rattle.flow_graph.proofs.CodeLemmas.{begins_below, so, not_so}
use Rattle.flow_graph.proofs.Marks.{first_unmarked, reached_next, reached_none}
use Rattle.flow_graph.proofs.reach.first_unreached.Goals as goal
use Rattle.flow_graph.proofs.reach.first_unreached.Goals.{then-begins_at+else-not-index, else-begins_at}

pub returns-then-not-index : goal.returns-then-not-index
returns-then-not-index c =
    first_unmarked c.args.code.now c.in_ok-marks.marks.items c.loop-slot.slot c.index.result.now c.in_ok-marks.ensures
    (so _ c.begins_at.ensures c.if-begins_at.true) (omega (arith, c.loop-slot.auto.slot)) c.index.ensures c.if-not-index.true c.loop-slot.invariant

pub loop-slot-preserved : goal.loop-slot-preserved
loop-slot-preserved c = elim c.if-begins_at.branch [
  | then-begins_at+else-not-index w ↦
      reached_next c.args.code.now c.in_ok-marks.marks.items c.loop-slot.slot w.index.result.now c.in_ok-marks.ensures c.loop-slot-test.true
      w.index.ensures w.if-not-index.false c.loop-slot.invariant
  | else-begins_at w ↦
      reached_none c.args.code.now c.loop-slot.slot (not_so _ c.begins_at.ensures w.if-begins_at.false) c.loop-slot.invariant
]

pub returns : goal.returns
returns c = λ s b.
    let lt : s < length c.args.code.now = begins_below c.args.code.now s b in
    let below : s < c.loop-slot.slot = omega arith in
    c.loop-slot.invariant s below b
