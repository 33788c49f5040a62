use Rattle.std.proofs.Common.{◌∙◌, ap, min, ◌+◌}
use Rattle.bpfjobs_cli.proofs.ResultLemmas.{spent_first}
use Rattle.bpfjobs_cli.proofs.result_check.spent_by.Goals as goal

pub tasks-preserved : goal.tasks-preserved
tasks-preserved c =
    spent_first c.args.tasks.now c.tasks.left.now c.in-Some.others.now c.in-Some.task.now c.tasks.spent c.saturating_add-spent.result c.saturating_add-spent.type_inv
    c.tasks.invariant c.in-Some.ensures.cases.0
    (c.saturating_add-spent.ensures ∙ ap (λ n. min (c.tasks.spent + n) 18446744073709551615) c.from.ensures)
