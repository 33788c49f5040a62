use Rattle.std.proofs.Common.{◌≡◌, ◌<◌, length, replicate, false, arith, rules}
use Rattle.machine_model.specs.Edges.{Always, NotTaken, Taken}
use Rattle.flow_graph.proofs.Marks.{spread_first, begins_pending, spread_zero, spread_one, spread_two, spread_all}
use Rattle.flow_graph.proofs.reach.slots_ahead.Goals as goal

pub loop-slot-init : goal.loop-slot-init
loop-slot-init c =
    let all : c.in_ok-marks.marks.items ≡ replicate (length c.args.code.now) false = search rules in
    spread_first c.args.code.now c.args.from c.in_ok-marks.marks.items c.push.new.self.items all (rw c.new-pending.ensures.items at c.in_ok-push.ensures.items)

pub next_of-requires-clause-begins : goal.next_of-requires-clause-begins
next_of-requires-clause-begins c =
    begins_pending _ c.args.from c.loop-slot.marks.items c.loop-slot.pending.items c.pop.new.self.items c.in-Some.slot c.in-Some.ensures.items
    c.requires.joined c.requires.begins c.loop-slot.invariant

pub loop-slot-preserved-in-Zero : goal.loop-slot-preserved-in-Zero
loop-slot-preserved-in-Zero c =
    spread_zero _ c.args.from c.loop-slot.marks.items c.loop-slot.pending.items c.pop.new.self.items c.in-Some.slot c.in-Some.ensures.items
    c.loop-slot.invariant c.in-Zero.ensures

pub mark_on-requires : goal.mark_on-requires
mark_on-requires c =
    let l = c.requires.joined.lands c.in-Some.slot Always c.in-One.to c.in-One.ensures.0 in
    let lt : c.in-One.to < length c.args.code.now = l.0 in omega (arith, c.loop-slot.invariant.slots)

pub loop-slot-preserved-in-Continue-branch-3 : goal.loop-slot-preserved-in-Continue-branch-3
loop-slot-preserved-in-Continue-branch-3 c =
    spread_one _ c.args.from c.loop-slot.marks.items c.mark_on.new.marks.items c.loop-slot.pending.items c.pop.new.self.items c.mark_on.new.pending.items
    c.in-Some.slot c.in-One.to c.in-Some.ensures.items c.loop-slot.invariant c.in-One.ensures c.in_ok-mark_on-in-One.ensures

pub mark_on-requires-in-Two : goal.mark_on-requires-in-Two
mark_on-requires-in-Two c =
    let l = c.requires.joined.lands c.in-Some.slot NotTaken c.in-Two.following c.in-Two.ensures.1 in
    let lt : c.in-Two.following < length c.args.code.now = l.0 in omega (arith, c.loop-slot.invariant.slots)

pub mark_on-requires-in-Two-2 : goal.mark_on-requires-in-Two-2
mark_on-requires-in-Two-2 c =
    let l = c.requires.joined.lands c.in-Some.slot Taken c.in-Two.to c.in-Two.ensures.2 in
    let lt : c.in-Two.to < length c.args.code.now = l.0 in omega (arith, c.loop-slot.invariant.slots, c.in_ok-mark_on-in-Two.ensures.slots)

pub loop-slot-preserved : goal.loop-slot-preserved
loop-slot-preserved c =
    spread_two _ c.args.from c.loop-slot.marks.items c.mark_on-in-Two.new.marks.items c.mark_on-in-Two-2.new.marks.items
    c.loop-slot.pending.items c.pop.new.self.items c.mark_on-in-Two.new.pending.items c.mark_on-in-Two-2.new.pending.items
    c.in-Some.slot c.in-Two.following c.in-Two.to c.in-Some.ensures.items c.loop-slot.invariant c.in-Two.ensures
    c.in_ok-mark_on-in-Two.ensures c.in_ok-mark_on-in-Two-2.ensures

pub returns : goal.returns
returns c = spread_all _ c.args.from c.loop-slot.marks.items c.loop-slot.pending.items c.loop-slot.invariant (omega (arith, c.in_default.ensures.cases.0))
