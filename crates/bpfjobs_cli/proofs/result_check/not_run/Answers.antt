use Rattle.bpfjobs_cli.proofs.ResultLemmas.{ran_all, ran_more}
use Rattle.bpfjobs_cli.proofs.result_check.not_run.Goals as goal

pub loop-task-preserved : goal.loop-task-preserved
loop-task-preserved c = ran_more c.args.tasks.now c.loop-task.task-index _ c.loop-task-test.true c.loop-task.invariant c.if-not-task.false

pub returns : goal.returns
returns c = ran_all c.args.tasks.now c.loop-task.task-index c.loop-task-test.false c.loop-task.invariant
