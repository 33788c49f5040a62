use Rattle.std.proofs.Common.{◌≡◌, Some, ap, rules, sym, ◌∙◌}
use Rattle.std.specs.Arc.{arc_value}
use Rattle.telgovan_c.specs.declared.boxed.Boxed.{Boxed}
use Rattle.telgovan_c.specs.Programs.{held_program, shown}
use Rattle.telgovan_c.proofs.tasks.start_held.Goals as goal

-- what was taken out is what the handle held
pub returns-in-Some-clause-begun : goal.returns-in-Some-clause-begun
returns-in-Some-clause-begun c =
    let held : c.args.program.held.kept ≡ Some c.in-Some.boxed.value = search rules in
    let is : held_program c.args.program ≡ Some (arc_value c.deref.result.now.program) =
    ap shown held ∙ ap (λ (b : Boxed). Some (arc_value b.program)) (sym c.deref.ensures) in
    rw is c.start_boxed-status.ensures
