use Rattle.std.proofs.Common.{ap, refl}
use Rattle.machine_model.specs.Machine.{State}
use Rattle.reference.specs.Records.{state_of}
use Rattle.run_trace.proofs.JobLemmas.{begins_in, keeps_in}
use Rattle.run_trace.proofs.job_tracing.tell.Goals as goal

pub step_between-requires-clause-begins : goal.step_between-requires-clause-begins
step_between-requires-clause-begins c =
    begins_in c.args.placed.now (state_of c.args.before.now) (state_of c.args.before.now) _ (rw c.in-Continues.is at c.requires.effect) tt refl

pub step_between-requires-clause-size : goal.step_between-requires-clause-size
step_between-requires-clause-size c = keeps_in c.args.placed.now (state_of c.args.before.now) _ (rw c.in-Continues.is at c.requires.effect)

pub step_between-requires-in-Ends-clause-begins : goal.step_between-requires-in-Ends-clause-begins
step_between-requires-in-Ends-clause-begins c =
    begins_in c.args.placed.now (state_of c.args.before.now) (state_of c.args.before.now) _ (rw c.in-Ends.is at c.requires.effect) tt refl

pub step_between-requires-in-Ends-clause-size : goal.step_between-requires-in-Ends-clause-size
step_between-requires-in-Ends-clause-size c = keeps_in c.args.placed.now (state_of c.args.before.now) _ (rw c.in-Ends.is at c.requires.effect)

pub step_between-requires-then-entry-clause-begins : goal.step_between-requires-then-entry-clause-begins
step_between-requires-then-entry-clause-begins c =
    begins_in c.args.placed.now (state_of c.args.before.now) (state_of c.args.before.now) _ (rw c.in-Spawns.is at c.requires.effect) tt refl

pub step_between-requires-then-entry-clause-size : goal.step_between-requires-then-entry-clause-size
step_between-requires-then-entry-clause-size c = keeps_in c.args.placed.now (state_of c.args.before.now) _ (rw c.in-Spawns.is at c.requires.effect)

pub step_between-requires-else-entry-clause-begins : goal.step_between-requires-else-entry-clause-begins
step_between-requires-else-entry-clause-begins c =
    begins_in c.args.placed.now (state_of c.args.before.now) (state_of c.in_ok-kept-in-Spawns.kept) _ (rw c.in-Spawns.is at c.requires.effect) tt
    (ap (λ (s : State). s.slot) c.in_ok-kept-in-Spawns.ensures)
