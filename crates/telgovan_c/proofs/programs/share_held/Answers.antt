use Rattle.std.proofs.Common.{◌≡◌, ap, ◌∙◌, refl, rules, Some}
use Rattle.std.specs.Arc.{arc_value}
use Rattle.telgovan_c.specs.declared.boxed.Boxed.{Boxed}
use Rattle.telgovan_c.specs.Programs.{shared, no_memory, held_program, shown}
use Rattle.telgovan_c.proofs.programs.share_held.Goals as goal

-- the other handle holds the same
pub returns-in-Ok-clause-shared : goal.returns-in-Ok-clause-shared
returns-in-Ok-clause-shared c =
    let held : c.args.program.held.kept ≡ Some c.in-Some.boxed.value = search rules in
    let is : c.deref.result.now ≡ c.in-Some.boxed.value = search rules in
    let same : arc_value c.in-Ok.shared.value.program ≡ arc_value c.deref.result.now.program = search rules in
    shared (arc_value c.in-Some.boxed.value.program) (ap shown held)
    (ap held_program c.sendable.ensures ∙ ap shown c.of.ensures ∙ ap Some (same ∙ ap (λ (b : Boxed). arc_value b.program) is)) refl

pub returns-in-Err-clause-shared : goal.returns-in-Err-clause-shared
returns-in-Err-clause-shared c =
    let held : c.args.program.held.kept ≡ Some c.in-Some.boxed.value = search rules in
    no_memory (arc_value c.in-Some.boxed.value.program) (ap shown held) refl refl
