use Rattle.std.proofs.Common.{◌≡◌, Some, rules}
use Rattle.telgovan_c.specs.Tasks.{boxed_task}
use Rattle.telgovan_c.proofs.tasks.go_boxed.Goals as goal

-- the task that goes on is the box's
pub returns-in-Some : goal.returns-in-Some
returns-in-Some c =
    let was : boxed_task c.args.boxed.now ≡ Some c.deref_mut.result.now = search rules in
    record { gone = rw was c.go_task.ensures }
