use Rattle.std.proofs.Common.{◌≡◌, rules, subst, Some}
use Rattle.job_core.specs.Representation.{WorldState}
use Rattle.telgovan_c.specs.Worlds.{HasRun, ran, world_in}
use Rattle.telgovan_c.proofs.worlds.run_held.Goals as goal

-- what was taken out is what the handle held
pub returns-in-Some : goal.returns-in-Some
returns-in-Some c =
    let held : world_in c.args.world ≡ Some c.in-Some.boxed.value = search rules in
    let is : c.deref_mut.result.now ≡ c.in-Some.boxed.value = search rules in
    let new : world_in c.of.result ≡ Some c.run_task-told.new.world = search rules in
    ran c.in-Some.boxed.value c.run_task-told.new.world held new
    (subst (λ (w : WorldState). HasRun w c.args.number c.args.limit c.run_task-told.new.world c.run_task-told.result) is c.run_task-told.ensures)
