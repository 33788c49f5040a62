use Rattle.std.proofs.Common.{ℕ, ◌<◌, arith}
use Rattle.flow_graph.specs.Cycles.{IsOnCycle}
use Rattle.flow_graph.proofs.CodeLemmas.{not_so}
use Rattle.flow_graph.proofs.Lists.{next_all}
use Rattle.flow_graph.proofs.OrderLemmas.{path_begins}
use Rattle.flow_graph.proofs.cycle.first_on_cycle.Goals as goal
use Rattle.flow_graph.proofs.cycle.first_on_cycle.Goals.{then-begins_at+in_ok-is_on_cycle+else-branch, else-begins_at}

pub loop-slot-preserved : goal.loop-slot-preserved
loop-slot-preserved c = elim c.if-begins_at.branch [
  | then-begins_at+in_ok-is_on_cycle+else-branch w ↦
      next_all (λ (s : ℕ). IsOnCycle c.args.code.now s → ⊥) c.loop-slot.slot c.loop-slot.invariant
      (not_so _ w.in_ok-is_on_cycle.ensures w.if-branch.false)
  | else-begins_at w ↦
      next_all (λ (s : ℕ). IsOnCycle c.args.code.now s → ⊥) c.loop-slot.slot c.loop-slot.invariant
      (λ cycle. not_so _ c.begins_at.ensures w.if-begins_at.false
      (path_begins c.args.code.now c.loop-slot.slot cycle.0 c.loop-slot.slot cycle.1))
]

pub returns : goal.returns
returns c = record {
  cycle = c.requires.known;
  least = λ s lt. let below : s < c.loop-slot.slot = omega arith in c.loop-slot.invariant s below;
}
