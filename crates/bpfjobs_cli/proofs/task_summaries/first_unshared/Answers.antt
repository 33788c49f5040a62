use Rattle.std.proofs.Common.{◌∙◌, sym}
use Rattle.bpfjobs_cli.proofs.EndLemmas.{extra_end, missing_end, one_end_more}
use Rattle.bpfjobs_cli.proofs.task_summaries.first_unshared.Goals as goal

pub returns-in-Less : goal.returns-in-Less
returns-in-Less c =
    extra_end _ _ c.ends.left.now c.ends.right.now c.in-Some.later.now c.in-Some-split_first.others.now c.in-Some.end.now c.in-Some-split_first.other.now
    c.ends.invariant c.in-Some.ensures.cases.0 c.in-Some-split_first.ensures.cases.0 (sym c.cmp.ensures ∙ c.in-Less.is)

pub returns-in-Greater : goal.returns-in-Greater
returns-in-Greater c =
    missing_end _ _ c.ends.left.now c.ends.right.now c.in-Some.later.now c.in-Some-split_first.others.now c.in-Some.end.now c.in-Some-split_first.other.now
    c.ends.invariant c.in-Some.ensures.cases.0 c.in-Some-split_first.ensures.cases.0 (sym c.cmp.ensures ∙ c.in-Greater.is)

pub ends-preserved : goal.ends-preserved
ends-preserved c =
    one_end_more _ _ c.ends.left.now c.ends.right.now c.in-Some.later.now c.in-Some-split_first.others.now c.in-Some.end.now c.in-Some-split_first.other.now
    c.ends.invariant c.in-Some.ensures.cases.0 c.in-Some-split_first.ensures.cases.0 (sym c.cmp.ensures ∙ c.in-Equal.is)
