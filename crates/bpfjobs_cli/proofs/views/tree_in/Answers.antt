use Rattle.std.proofs.lemmas.Result.{IfOk-weaker}
use Rattle.bpfjobs_cli.specs.Shown.{no_job}
use Rattle.bpfjobs_cli.proofs.Telling.{told_tree}
use Rattle.bpfjobs_cli.proofs.views.tree_in.Goals as goal

pub returns-in_default : goal.returns-in_default
returns-in_default c = no_job (rw c.in_default.is at c.in_ok-job.ensures)

pub returns : goal.returns
returns c =
    let job = rw c.in-Some.is at c.in_ok-job.ensures in
    IfOk-weaker c.tree_of.result _ _ (λ found h. told_tree c.args.input.now c.in-Some.job found job h) c.tree_of.ensures.tree
