use Rattle.flow_graph.proofs.WalkLemmas.{to_within, walk_entered, smaller_entered, walk_left, further_set, caught_back, slot_marked, open_new, done_new}
use Rattle.flow_graph.specs.declared.walk.Mark.TheVariants.{Open, Done}
use Rattle.flow_graph.proofs.walk.walk_on.Goals as goal

pub enter-requires : goal.enter-requires
enter-requires c =
    to_within c.args.code.now c.loop-slot.walk.marks.items c.in-Some.slot c.in-To.next c.requires.joined c.loop-slot.invariant.walk.slots c.in-To.ensures.0

pub loop-slot-smaller-in-Continue-1 : goal.loop-slot-smaller-in-Continue-1
loop-slot-smaller-in-Continue-1 c =
    smaller_entered c.args.code.now c.loop-slot.walk.marks.items c.enter.new.self.marks.items c.loop-slot.walk.path.items c.pop.new.self.items
    c.enter.new.self.path.items c.loop-slot.walk.done.items c.in-Some.slot c.in-To.next c.requires.joined c.loop-slot.invariant.walk c.in-Some.ensures.items
    (rw c.deref.ensures.value at c.in-To.ensures) c.in_ok-enter-in-To.ensures.marks c.in_ok-enter-in-To.ensures.path

pub loop-slot-preserved-in-Continue-1 : goal.loop-slot-preserved-in-Continue-1
loop-slot-preserved-in-Continue-1 c = record {
  walk = walk_entered c.args.code.now c.loop-slot.walk.marks.items c.enter.new.self.marks.items c.loop-slot.walk.path.items c.pop.new.self.items
      c.enter.new.self.path.items c.loop-slot.walk.done.items c.enter.new.self.done.items c.in-Some.slot c.in-To.next c.requires.joined
      c.loop-slot.invariant.walk c.in-Some.ensures.items (rw c.deref.ensures.value at c.in-To.ensures) c.in_ok-enter-in-To.ensures.marks
      c.in_ok-enter-in-To.ensures.path c.in_ok-enter-in-To.ensures.done;
  further = further_set c.args.walk.marks.items c.loop-slot.walk.marks.items c.enter.new.self.marks.items c.in-To.next Open
      c.loop-slot.invariant.further
      (to_within c.args.code.now c.loop-slot.walk.marks.items c.in-Some.slot c.in-To.next c.requires.joined c.loop-slot.invariant.walk.slots c.in-To.ensures.0)
      open_new c.in_ok-enter-in-To.ensures.marks;
}

pub returns-in-Back : goal.returns-in-Back
returns-in-Back c =
    caught_back c.args.code.now c.loop-slot.walk.marks.items c.loop-slot.walk.path.items c.pop.new.self.items c.loop-slot.walk.done.items
    c.in-Some.slot c.in-Back.next c.loop-slot.invariant.walk c.in-Some.ensures.items (rw c.deref.ensures.value at c.in-Back.ensures)

pub loop-slot-preserved : goal.loop-slot-preserved
loop-slot-preserved c = record {
  walk = walk_left c.args.code.now c.loop-slot.walk.marks.items c.leave.new.self.marks.items c.loop-slot.walk.path.items c.pop.new.self.items
      c.leave.new.self.path.items c.loop-slot.walk.done.items c.leave.new.self.done.items c.in-Some.slot c.requires.joined
      c.loop-slot.invariant.walk c.in-Some.ensures.items (rw c.deref.ensures.value at c.in-Finished.ensures) c.in_ok-leave-in-Finished.ensures.marks
      c.in_ok-leave-in-Finished.ensures.path c.in_ok-leave-in-Finished.ensures.done;
  further = further_set c.args.walk.marks.items c.loop-slot.walk.marks.items c.leave.new.self.marks.items c.in-Some.slot Done
      c.loop-slot.invariant.further
      (slot_marked c.args.code.now c.loop-slot.walk.marks.items c.loop-slot.walk.path.items c.pop.new.self.items c.loop-slot.walk.done.items
      c.in-Some.slot c.loop-slot.invariant.walk c.in-Some.ensures.items)
      done_new c.in_ok-leave-in-Finished.ensures.marks;
}
