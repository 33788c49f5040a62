use Rattle.std.proofs.Common.{Some, ap, refl, ◌∙◌, ℕ}
use Rattle.telgovan_c.specs.Tasks.{event_told, gone, refused}
use Rattle.telgovan_c.proofs.tasks.go_task.Goals as goal

pub returns-in-Ok : goal.returns-in-Ok
returns-in-Ok c =
    gone c.args.task.now c.go.new.self refl refl c.in-Ok.event c.in-Ok.ensures.goes c.in-Ok.ensures.same.0 c.in-Ok.ensures.same.1
    (c.event_told.ensures ∙ ap (λ (n : ℕ). event_told c.in-Ok.event n) c.used.ensures)

pub returns-in-Err : goal.returns-in-Err
returns-in-Err c =
    let stays = c.in-Err.ensures.goes in
    refused c.args.task.now refl c.in-Err.fault stays.0 (ap Some stays.1) stays.2 (rw (c.from.ensures, c.code.ensures) at c.refused_event.ensures)
