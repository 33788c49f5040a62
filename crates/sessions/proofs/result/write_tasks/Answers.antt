use Rattle.std.proofs.Common.{◌++◌, false, ap, ◌∙◌}
use Rattle.std.proofs.lemmas.List.{take_all, take_more}
use Rattle.sessions.specs.ResultTexts.{task_texts}
use Rattle.sessions.proofs.ResultLemmas.{behind_more, tasks_more}
use Rattle.sessions.proofs.result.write_tasks.Goals as goal

pub loop-task-preserved : goal.loop-task-preserved
loop-task-preserved c =
    let more = take_more c.args.tasks.now c.loop-task.task-index _ c.loop-task-test.true in
    record {
      written = tasks_more c.args.out.now.items _ _ _ _ _ _ _ more c.loop-task.invariant.written c.loop-task.invariant.later c.in_ok-put_comma.ensures c.in_ok-write_task.ensures;
      later = behind_more _ _ _ more;
    }

pub returns : goal.returns
returns c = c.loop-task.invariant.written ∙ ap (λ ts. c.args.out.now.items ++ task_texts false ts) (take_all c.loop-task.task-index c.args.tasks.now c.loop-task-test.false)
