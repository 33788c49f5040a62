use Rattle.std.proofs.Common.{◌≡◌, ◌+◌, ◌≤◌, sum_by, take}
use Rattle.sessions.specs.Replies.{longest_reply}
use Rattle.sessions.specs.ResultTexts.{weight}
use Rattle.sessions.proofs.result.tasks_length.Given as goal

abbrev pub invariant-loop-task : goal.invariant-loop-task
invariant-loop-task l = record {
  count : l.count ≡ sum_by weight (take l.task-index l.tasks);
  most : l.count ≤ longest_reply + 1;
}
