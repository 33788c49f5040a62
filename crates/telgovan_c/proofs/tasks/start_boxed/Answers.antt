use Rattle.std.proofs.Common.{◌<◌, ◌⊎◌, ap, inl, inr, refl, ◌∙◌}
use Rattle.std.specs.Arc.{arc_value}
use Rattle.machine_model.specs.Limits.{max_credit, max_part}
use Rattle.telgovan_c.specs.Tasks.{begun, no_memory, over_limit, refused, held_task, task_shown}
use Rattle.telgovan_c.proofs.tasks.start_boxed.Goals as goal
use Rattle.telgovan_c.proofs.tasks.start_boxed.Goals.{then-credit-gt-MAX_CREDIT-via-then-credit-gt-MAX_CREDIT, then-credit-gt-MAX_CREDIT-via-else-credit-gt-MAX_CREDIT+then-length-gt-MAX_PART}

pub returns-then-credit-gt-MAX_CREDIT : goal.returns-then-credit-gt-MAX_CREDIT
returns-then-credit-gt-MAX_CREDIT c =
    let over : (max_credit < c.args.credit) ⊎ (max_part < c.args.length) = elim c.then-credit-gt-MAX_CREDIT.branch [
      | then-credit-gt-MAX_CREDIT-via-then-credit-gt-MAX_CREDIT w ↦ inl w.if-credit-gt-MAX_CREDIT.true
      | then-credit-gt-MAX_CREDIT-via-else-credit-gt-MAX_CREDIT+then-length-gt-MAX_PART w ↦ inr w.if-length-gt-MAX_PART.true
    ] in
    over_limit (arc_value c.args.boxed.now.program) refl over refl refl

pub returns-in_default : goal.returns-in_default
returns-in_default c =
    no_memory (arc_value c.args.boxed.now.program) refl c.if-credit-gt-MAX_CREDIT.false c.if-length-gt-MAX_PART.false refl refl

pub returns-in-Ok-running : goal.returns-in-Ok-running
returns-in-Ok-running c =
    begun (arc_value c.args.boxed.now.program) refl c.if-credit-gt-MAX_CREDIT.false c.if-length-gt-MAX_PART.false c.in-Ok-start.started
    (ap held_task c.sendable.ensures ∙ ap task_shown c.of.ensures ∙ c.in-Ok-running.ensures) (rw c.in-Ok.ensures at c.in-Ok-start.ensures) refl

pub returns-in-Err-running : goal.returns-in-Err-running
returns-in-Err-running c =
    no_memory (arc_value c.args.boxed.now.program) refl c.if-credit-gt-MAX_CREDIT.false c.if-length-gt-MAX_PART.false refl refl

pub returns-in-Err : goal.returns-in-Err
returns-in-Err c =
    refused (arc_value c.args.boxed.now.program) refl c.if-credit-gt-MAX_CREDIT.false c.if-length-gt-MAX_PART.false c.in-Err.fault
    (rw c.in-Ok.ensures at c.in-Err.ensures) refl (c.from.ensures ∙ c.code.ensures)
