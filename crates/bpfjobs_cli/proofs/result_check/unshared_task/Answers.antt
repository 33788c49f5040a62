use Rattle.std.proofs.Common.{subst, sym, ◌∙◌}
use Rattle.bpfjobs_cli.specs.TaskSummaries.{Ascends}
use Rattle.bpfjobs_cli.specs.ResultChecks.{ComparesTasks, given_ends, expected_ends}
use Rattle.bpfjobs_cli.proofs.ResultLemmas.{ascends, compared_tasks}
use Rattle.bpfjobs_cli.proofs.result_check.unshared_task.Goals as goal

pub first_unshared-requires-clause-given : goal.first_unshared-requires-clause-given
first_unshared-requires-clause-given c = rw c.deref.ensures.value (ascends _ c.sort_unstable.ensures.sorted)

pub first_unshared-requires-clause-expected : goal.first_unshared-requires-clause-expected
first_unshared-requires-clause-expected c = rw c.deref-2.ensures.value (ascends _ c.sort_unstable-2.ensures.sorted)

pub returns : goal.returns
returns c =
    compared_tasks _ _ _ _ c.args.given.now _ c.first_unshared.result c.in_ok-given.ensures c.in_ok-expected.ensures
    c.sort_unstable.ensures.permutation c.sort_unstable-2.ensures.permutation
    (rw (c.deref.ensures.value, c.deref-2.ensures.value) at c.first_unshared.ensures)
