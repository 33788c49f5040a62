use Rattle.std.proofs.Common.{◌≡◌, length, replicate, false, arith, rules}
use Rattle.flow_graph.proofs.CodeLemmas.{so, not_so}
use Rattle.flow_graph.proofs.ForwardLemmas.{forward_first, forward_none, forward_more, forward_all}
use Rattle.flow_graph.proofs.forward.slots_in_turn.Goals as goal
use Rattle.flow_graph.proofs.forward.slots_in_turn.Goals.{then-begins_at+else-not-index+else-not-follow+in_ok-push, else-begins_at}

pub loop-slot-init : goal.loop-slot-init
loop-slot-init c =
    let all : c.in_ok-marks.marks.items ≡ replicate (length c.args.code.now) false = search rules in
    rw c.in_ok-order.ensures.items (forward_first c.args.code.now c.in_ok-marks.marks.items all)

pub loop-slot-preserved : goal.loop-slot-preserved
loop-slot-preserved c = elim c.if-begins_at.branch [
  | then-begins_at+else-not-index+else-not-follow+in_ok-push w ↦
      rw (w.marks-is, w.order-is, w.in_ok-push.ensures.items)
      (forward_more c.args.code.now c.loop-slot.slot c.loop-slot.marks.items w.follow.new.marks.items c.loop-slot.order.items w.index.result.now
      c.loop-slot.invariant c.loop-slot-test.true (so _ c.begins_at.ensures w.if-begins_at.true) w.index.ensures w.if-not-index.false
      w.follow.ensures.slots (w.follow.ensures.onward (rw w.if-not-follow.false (search rules))) w.follow.ensures.marked)
  | else-begins_at w ↦
      rw (w.marks-is, w.order-is)
      (forward_none c.args.code.now c.loop-slot.slot c.loop-slot.marks.items c.loop-slot.order.items c.loop-slot.invariant
      (not_so _ c.begins_at.ensures w.if-begins_at.false))
]

pub returns : goal.returns
returns c =
    forward_all c.args.code.now c.loop-slot.slot c.loop-slot.marks.items c.loop-slot.order.items (omega arith) c.loop-slot.invariant
