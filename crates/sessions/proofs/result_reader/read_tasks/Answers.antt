use Rattle.std.proofs.Common.{map, option_and_then, Some, refl, ap, sym, ◌∙◌}
use Rattle.serde_json.specs.View.{view}
use Rattle.sessions.specs.Grammar.{all_of}
use Rattle.sessions.specs.ResultObjects.{task_from, tasks_at}
use Rattle.sessions.proofs.Lists.{reads_on, reads_nothing, none_of}
use Rattle.sessions.proofs.result_reader.read_tasks.Goals as goal

pub loop-item-preserved : goal.loop-item-preserved
loop-item-preserved c =
    reads_on task_from c.deref-item-items.result.now c.loop-item.item-index c.item-item.result _ _ c.loop-item-test.true c.item-item.is c.loop-item.invariant (sym c.in-Some-read_task.ensures)
    ∙ ap Some (sym c.in_ok-push.ensures.items)

pub returns-in_default-read_task-clause-err : goal.returns-in_default-read_task-clause-err
unfolding tasks_at
returns-in_default-read_task-clause-err c = λ not_memory. (
  refl,
  ap (option_and_then (all_of task_from)) (sym c.in-Some.ensures)
      ∙ ap (λ vs. all_of task_from (map view vs)) (sym c.deref-item-items.ensures.value)
      ∙ reads_nothing task_from c.deref-item-items.result.now c.loop-item.item-index c.item-item.result c.loop-item-test.true c.item-item.is
      (sym c.read_task.ensures ∙ none_of c.read_task.result (λ n is. c.in_default-read_task.not-Some n is)),
)
