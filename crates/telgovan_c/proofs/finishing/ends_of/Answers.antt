use Rattle.std.proofs.Common.{inl, refl}
use Rattle.std.specs.Prelude.{get_or}
use Rattle.std.proofs.lemmas.Option.{slice_get-get_or}
use Rattle.telgovan_c.specs.declared.jobs.ReportedTask.{ReportedTask}
use Rattle.telgovan_c.proofs.finishing.ends_of.Goals as goal

abbrev blank : ReportedTask
blank = record { argument = 0; r0 = 0; number = 0; program = 0; given = 0; spent = 0; returned = 0 }

pub returns-then-task-gt65535-clause-err : goal.returns-then-task-gt65535-clause-err
returns-then-task-gt65535-clause-err c =
    let there = slice_get-get_or c.args.tasks.now c.loop-task.task-index blank c.loop-task-test.true in
    inl (c.loop-task.task-index, get_or c.args.tasks.now c.loop-task.task-index blank, there, c.if-task-gt65535.true, refl)
