use Rattle.std.proofs.Common.{◌<◌, length, arith, ap}
use Rattle.flow_graph.proofs.CodeLemmas.{begins_below, not_so}
use Rattle.flow_graph.proofs.WalkLemmas.{order_of, met_next, met_none}
use Rattle.flow_graph.proofs.walk.walk_all.Goals as goal
use Rattle.flow_graph.proofs.walk.walk_all.Goals.{then-begins_at+in_ok-further+in-All, else-begins_at}

pub loop-slot-preserved : goal.loop-slot-preserved
loop-slot-preserved c = elim c.if-begins_at.branch [
  | then-begins_at+in_ok-further+in-All w ↦
      let ended = rw w.in-All.is at w.in_ok-further.ensures.ended in
      let met = rw w.in-All.is at w.in_ok-further.ensures.met in
      rw w.walk-is (record {
        walk = ended.0;
        ended = ended.1;
        met = met_next c.args.code.now c.loop-slot.walk.marks.items w.in-All.further.marks.items c.loop-slot.slot ended.2 met c.loop-slot.invariant.met;
      })
  | else-begins_at w ↦
      rw w.walk-is (record {
        walk = c.loop-slot.invariant.walk;
        ended = c.loop-slot.invariant.ended;
        met = met_none c.args.code.now c.loop-slot.walk.marks.items c.loop-slot.slot (not_so _ c.begins_at.ensures w.if-begins_at.false) c.loop-slot.invariant.met;
      })
]

pub returns : goal.returns
returns c = (
  order_of c.args.code.now c.loop-slot.walk.marks.items c.loop-slot.walk.path.items c.loop-slot.walk.done.items c.loop-slot.invariant.walk
      (ap length c.loop-slot.invariant.ended)
      (λ s b. let lt : s < length c.args.code.now = begins_below c.args.code.now s b in c.loop-slot.invariant.met s (omega arith) b),
  omega (arith, c.loop-slot.invariant.walk.room),
)
