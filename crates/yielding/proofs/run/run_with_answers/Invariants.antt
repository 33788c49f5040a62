use Rattle.std.proofs.Common.{◌≡◌, ◌+◌, ◌-◌, ◌*◌, ◌≤◌, List, false, length, not}
use Rattle.std.specs.Arc.{arc_value}
use Rattle.task_trees.specs.Solo.{entering}
use Rattle.yielding.specs.Asking.{Exchange, AnswersCalls}
use Rattle.yielding.specs.Pieces.{one_if}
use Rattle.yielding.specs.Standing.{has_ended, waits}
use Rattle.yielding.proofs.RunLemmas.{IsOnWay}
use Rattle.yielding.proofs.run.run_with_answers.Given as goal

abbrev pub invariant-pieces : goal.invariant-pieces
invariant-pieces g l = record {
  callable : goal.F-IsAlwaysCallable g l.answer;
  program : l.task.program ≡ arc_value l.fn.program;
  goes : has_ended l.task.phase ≡ false;
  size : length l.memory ≡ l.task.len;
  way : (asked : List Exchange) × AnswersCalls (goal.F-step g) l.fn.answer asked l.answer
      × IsOnWay (arc_value l.fn.program) (entering l.fn.argument l.fn.credit l.fn.memory) asked l.task l.memory l.word;
  within : l.task.credit.used ≤ l.task.credit.held;
}

abbrev pub decreases-pieces : goal.decreases-pieces
decreases-pieces g l = 2 * (l.task.credit.held - l.task.credit.used) + one_if (not (waits l.task.phase))
