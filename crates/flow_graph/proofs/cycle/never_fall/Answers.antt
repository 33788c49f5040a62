use Rattle.std.proofs.Common.{rules}
use Rattle.flow_graph.specs.Numbers.{LeadsOn}
use Rattle.flow_graph.proofs.CodeLemmas.{not_so}
use Rattle.flow_graph.proofs.Lists.{next_all}
use Rattle.flow_graph.proofs.NumberLemmas.{all_edges}
use Rattle.flow_graph.proofs.OrderLemmas.{joint_begins}
use Rattle.flow_graph.proofs.cycle.never_fall.Goals as goal
use Rattle.flow_graph.proofs.cycle.never_fall.Goals.{then-begins_at+else-not-leads_on, else-begins_at}

pub loop-slot-preserved : goal.loop-slot-preserved
loop-slot-preserved c = elim c.if-begins_at.branch [
  | then-begins_at+else-not-leads_on w ↦
      next_all (LeadsOn c.args.code.now c.args.numbers.now) c.loop-slot.slot c.loop-slot.invariant
      (w.leads_on.ensures (search rules))
  | else-begins_at w ↦
      next_all (LeadsOn c.args.code.now c.args.numbers.now) c.loop-slot.slot c.loop-slot.invariant
      (λ s joint. absurd (not_so _ c.begins_at.ensures w.if-begins_at.false (joint_begins c.args.code.now c.loop-slot.slot s joint)))
]

pub returns : goal.returns
returns c = λ _. all_edges c.args.code.now c.args.numbers.now c.loop-slot.slot c.loop-slot-test.false c.loop-slot.invariant
