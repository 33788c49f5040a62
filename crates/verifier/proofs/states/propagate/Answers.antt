use Rattle.std.proofs.Common.{◌<◌, arith, None, length}
use Rattle.std.proofs.lemmas.Result.{on_ok_weaker}
use Rattle.std.proofs.lemmas.List.{get_or-set_same, get_or-set_other}
use Rattle.std.proofs.Math.ListN.{length-set}
use Rattle.machine_model.specs.Edges.{Always, NotTaken, Taken}
use Rattle.verifier.proofs.Linking.{joint_zero}
use Rattle.verifier.proofs.Comings.{come_away, among_at, later_at}
use Rattle.verifier.proofs.states.propagate.Goals as goal

pub returns-in-Zero : goal.returns-in-Zero
returns-in-Zero c = record {
  propagated = λ need helpers n h lt at.
      let room : c.args.visited.now.from < length c.args.states.now = omega (arith, c.if-prove.false, c.slots-slots.ensures.slots, c.requires.slots) in
      come_away (record { need = need; helpers = helpers; code = c.args.graph.now.code }) c.args.graph.now.order _ c.args.visited.now.from c.args.sources.now
      c.args.states.now _ h (among_at c.args.graph.now.order n c.args.visited.now.from lt at) (length-set c.args.states.now c.args.visited.now.from None)
      (λ k ne. get_or-set_other c.args.states.now c.args.visited.now.from k None None ne)
      (get_or-set_same c.args.states.now c.args.visited.now.from None None room)
      (λ to joint. absurd (joint_zero c.args.graph.now.code c.args.visited.now.from to (rw c.in-Zero.is at c.requires.next) joint));
}

pub returns-in-One : goal.returns-in-One
returns-in-One c = record {
  propagated = on_ok_weaker c.propagate_in_turn.result (λ propagated need helpers n h lt at.
      propagated need helpers _ h (among_at c.args.graph.now.order n c.args.visited.now.from lt at)
      (later_at c.args.graph.now.code c.args.graph.now.order n c.args.visited.now.from c.in-One.to c.slots-slots.ensures.flow.order lt at
      (Always, (rw c.in-One.is at c.requires.next).0)) c.requires.insn) c.propagate_in_turn.ensures.propagated;
}

pub returns-in_ok-propagate_in_turn-in-Two : goal.returns-in_ok-propagate_in_turn-in-Two
returns-in_ok-propagate_in_turn-in-Two c = record {
  propagated = on_ok_weaker c.propagate_in_turn-in-Two-2.result (λ propagated need helpers n h lt at.
      let next = rw c.in-Two.is at c.requires.next in
      propagated need helpers _
      (c.in_ok-propagate_in_turn-in-Two.ensures.propagated need helpers _ h (among_at c.args.graph.now.order n c.args.visited.now.from lt at)
      (later_at c.args.graph.now.code c.args.graph.now.order n c.args.visited.now.from c.in-Two.following c.slots-slots.ensures.flow.order lt at (NotTaken, next.1)) c.requires.insn)
      (among_at c.args.graph.now.order n c.args.visited.now.from lt at)
      (later_at c.args.graph.now.code c.args.graph.now.order n c.args.visited.now.from c.in-Two.to c.slots-slots.ensures.flow.order lt at (Taken, next.2)) c.requires.insn)
      c.propagate_in_turn-in-Two-2.ensures.propagated;
}
