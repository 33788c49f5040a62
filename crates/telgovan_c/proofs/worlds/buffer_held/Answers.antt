use Rattle.std.proofs.Common.{◌≡◌, rules, subst, Some}
use Rattle.job_core.specs.Representation.{WorldState}
use Rattle.telgovan_c.specs.Worlds.{IsBufferTold, of_job, world_in}
use Rattle.telgovan_c.proofs.worlds.buffer_held.Goals as goal

-- what was taken out is what the handle held
pub returns-in-Some-clause-told : goal.returns-in-Some-clause-told
returns-in-Some-clause-told c =
    let held : world_in c.args.world ≡ Some c.in-Some.boxed.value = search rules in
    let is : c.deref.result.now ≡ c.in-Some.boxed.value = search rules in
    of_job c.in-Some.boxed.value held
    (subst (λ (w : WorldState). IsBufferTold w c.args.room.now c.write_buffer-told.new.room c.write_buffer-told.result) is c.write_buffer-told.ensures)
