use Rattle.std.proofs.Common.{◌≡◌, ap, ◌∙◌, refl, rules, Some}
use Rattle.std.specs.Arc.{arc_value}
use Rattle.verifier.specs.Checked.{Checked, cost_at}
use Rattle.telgovan_c.specs.declared.boxed.Boxed.{Boxed}
use Rattle.telgovan_c.specs.Programs.{told, shown}
use Rattle.telgovan_c.proofs.programs.cost_held.Goals as goal

-- what was taken out is what the handle held
pub returns-in-Some-clause-cost : goal.returns-in-Some-clause-cost
returns-in-Some-clause-cost c =
    let held : c.args.program.held.kept ≡ Some c.in-Some.boxed.value = search rules in
    let is : c.program.result.now ≡ arc_value c.in-Some.boxed.value.program =
    c.program.ensures.program ∙ ap (λ (b : Boxed). arc_value b.program) c.deref.ensures in
    told (arc_value c.in-Some.boxed.value.program) (ap shown held) (c.cost.ensures ∙ ap (λ (p : Checked). cost_at p 0) is) refl
