use Rattle.std.proofs.Common.{◌≡◌, ◌<◌, length, refl, sym, arith, Bool, not, true, false}
use Rattle.std.specs.Bool.{IsTrue}
use Rattle.verifier.specs.InStates.{Subject}
use Rattle.verifier.proofs.Arrivals.{arrive_is, joint_past, joint_apart}
use Rattle.verifier.proofs.Comings.{come_delivered, linked_noted}
use Rattle.verifier.proofs.states.propagate_to.Goals as goal

pub propagate_edges-requires-clause-other : goal.propagate_edges-requires-clause-other
propagate_edges-requires-clause-other c =
    joint_apart c.args.graph.now.code c.args.graph.now.order c.args.visited.now.from c.args.to c.slots-slots.ensures.flow.order c.requires.joint

pub returns-clause-linked : goal.returns-clause-linked
returns-clause-linked c =
    linked_noted c.args.graph.now.code c.args.sources.now c.note.new.self c.args.to _ c.requires.linked c.note.ensures.first c.note.ensures.following
    c.note.ensures.taken c.note.ensures.edges

not_false : (b : Bool) → not b ≡ false → IsTrue b
not_false true e = refl
not_false false e = absurd (cc)

pub returns-clause-propagated : goal.returns-clause-propagated
returns-clause-propagated c = λ need helpers n state h among none insn there.
    let flow = c.slots-slots.ensures.flow in
    let p : Subject = record { need = need; helpers = helpers; code = c.args.graph.now.code } in
    let within : c.args.to < length c.args.graph.now.code = omega (arith, c.if-prove-2.false, c.slots-slots.ensures.slots) in
    come_delivered p c.args.graph.now.order n c.args.visited.now.from c.args.to c.args.sources.now c.note.new.self c.args.states.now c.propagate_edges.new.states
    c.args.visited.now.next c.args.visited.now.insn.now state (not c.is_taken_beside-keep.result)
    (arrive_is p c.args.graph.now.order flow.joined flow.order flow.short)
    (joint_past c.args.graph.now.code c.args.graph.now.order c.args.visited.now.from c.args.to flow c.requires.joint) within
    (joint_apart c.args.graph.now.code c.args.graph.now.order c.args.visited.now.from c.args.to flow.order c.requires.joint)
    h among none insn there c.requires.joint c.requires.next c.requires.first
    c.in_ok-propagate_edges.ensures.slots c.in_ok-propagate_edges.ensures.others c.in_ok-propagate_edges.ensures.from (c.in_ok-propagate_edges.ensures.joined state (sym there))
    c.note.ensures.first c.note.ensures.following c.note.ensures.taken c.note.ensures.edges (λ e. c.is_taken_beside-keep.ensures (not_false c.is_taken_beside-keep.result e))
