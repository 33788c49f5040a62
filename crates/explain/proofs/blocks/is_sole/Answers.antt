use Rattle.std.proofs.Common.{◌≤◌, ◌<◌, ℕ, suc, Option, Some, arith, ap, length, refl, subst, sym, ◌∙◌}
use Rattle.verifier.specs.Sources.{IsNextSource}
use Rattle.explain.proofs.SourceLemmas.{later_source, sole_source}
use Rattle.explain.proofs.blocks.is_sole.Goals as goal

pub returns-in-None : goal.returns-in-None
returns-in-None c =
    let within : c.args.to < length c.args.graph.now.code = omega (arith, c.slots-slots.ensures.slots, c.if-prove-2.false) in
    let from : 0 ≤ c.args.from = omega arith in
    let none = subst (λ (o : Option ℕ). IsNextSource c.args.graph.now.code c.args.to 0 o) (sym c.in-None.ensures) (c.requires.linked.first c.args.to within) in
    (λ t. absurd cc, λ sole. absurd (none c.args.from from c.requires.joint))

pub returns-then-first-from : goal.returns-then-first-from
returns-then-first-from c =
    let within : c.args.to < length c.args.graph.now.code = omega (arith, c.slots-slots.ensures.slots, c.if-prove-2.false) in
    let first = subst (λ (o : Option ℕ). IsNextSource c.args.graph.now.code c.args.to 0 o) (sym c.in-Some.ensures) (c.requires.linked.first c.args.to within) in
    (λ t. absurd cc, λ sole. absurd (c.if-first-from.true (sole c.in-Some.first first.1)))

pub returns-in-None-after : goal.returns-in-None-after
returns-in-None-after c =
    let within : c.args.to < length c.args.graph.now.code = omega (arith, c.slots-slots.ensures.slots, c.if-prove-2.false) in
    let from : 0 ≤ c.args.from = omega arith in
    let first = subst (λ (o : Option ℕ). IsNextSource c.args.graph.now.code c.args.to 0 o) (sym c.in-Some.ensures ∙ ap Some c.if-first-from.false)
    (c.requires.linked.first c.args.to within) in
    let none = subst (λ (o : Option ℕ). IsNextSource c.args.graph.now.code c.args.to (suc c.args.from) o) (sym c.after.ensures ∙ c.in-None-after.is)
    (c.requires.linked.after c.args.from c.args.to c.successors.result from c.successors.ensures c.requires.joint) in
    (λ t. sole_source c.args.graph.now.code c.args.from c.args.to first none, λ sole. refl)

pub returns-in-Some-after : goal.returns-in-Some-after
returns-in-Some-after c =
    let from : 0 ≤ c.args.from = omega arith in
    let later = subst (λ (o : Option ℕ). IsNextSource c.args.graph.now.code c.args.to (suc c.args.from) o) (sym c.after.ensures ∙ c.in-Some-after.is)
    (c.requires.linked.after c.args.from c.args.to c.successors.result from c.successors.ensures c.requires.joint) in
    (λ t. absurd cc, λ sole. absurd (later_source c.args.graph.now.code c.args.from c.args.to c.in-Some-after.field-0 later sole))
