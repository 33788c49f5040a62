use Rattle.std.proofs.Common.{◌≡◌, Some, ap, rules, sym, ◌∙◌}
use Rattle.telgovan_c.specs.declared.boxed.Boxed.{Boxed}
use Rattle.telgovan_c.specs.Tasks.{held_task, boxed_task, task_shown}
use Rattle.telgovan_c.proofs.tasks.go_held.Goals as goal

-- what was taken out is what the handle held, and what is put back is what the call left
pub returns-in-Some : goal.returns-in-Some
returns-in-Some c =
    let held : c.args.task.handle.held.kept ≡ Some c.in-Some.boxed.value = search rules in
    let was : held_task c.args.task ≡ boxed_task c.deref_mut.result.now = ap task_shown held ∙ ap boxed_task (sym c.deref_mut.ensures.value) in
    let is : held_task c.of.result ≡ boxed_task c.go_boxed-told.new.boxed = ap task_shown c.of.ensures in
    rw (was, is) c.go_boxed-told.ensures.gone
