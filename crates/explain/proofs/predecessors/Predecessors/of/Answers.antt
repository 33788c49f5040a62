use Rattle.std.proofs.Common.{◌≡◌, ℕ, sym, arith, subst, suc, ◌-◌}
use Rattle.verifier.specs.Sources.{AreLinked}
use Rattle.verifier.proofs.Linking.{linked_second, second_leads}
use Rattle.explain.proofs.predecessors.Predecessors.of.Goals as goal

pub loop-from-preserved : goal.loop-from-preserved
loop-from-preserved c =
    let next : c.loop-from.from ≡ suc (c.loop-from.from - 1) = omega (arith, c.loop-from-test.true) in
    linked_second c.args.graph.now.code c.loop-from.predecessors (c.loop-from.from - 1)
    (subst (λ (n : ℕ). AreLinked c.args.graph.now.code c.loop-from.predecessors n) next c.loop-from.invariant)
    (second_leads c.args.graph.now.code (c.loop-from.from - 1) (sym c.in_default.ensures))
