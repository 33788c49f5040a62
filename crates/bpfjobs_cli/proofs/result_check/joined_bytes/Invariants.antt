use Rattle.std.proofs.Common.{◌≡◌, length, map}
use Rattle.reference.specs.Evaluating.{finished_of}
use Rattle.task_trees.specs.Answer.{joined_bytes}
use Rattle.bpfjobs_cli.proofs.ResultLemmas.{overlaid}
use Rattle.bpfjobs_cli.proofs.result_check.joined_bytes.Given as goal

abbrev pub invariant-tasks : goal.invariant-tasks
invariant-tasks l = joined_bytes l.fn.size (map finished_of l.tasks) ≡ overlaid l.whole.items (map finished_of l.left)

abbrev pub decreases-tasks : goal.decreases-tasks
decreases-tasks l = length l.left
