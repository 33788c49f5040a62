use Rattle.std.proofs.Common.{◌-◌, ◌+◌, ◌≤◌, take, replicate}
use Rattle.verifier.specs.Checked.{cost_at}
use Rattle.job_core.specs.Keeping.{kept_of}
use Rattle.job_core.proofs.Runs.{IsRunning, IsUnderWay}
use Rattle.job_core.proofs.tasks.Tasks.run_task.Given as goal

abbrev pub invariant-loop-gone : goal.invariant-loop-gone
invariant-loop-gone l = record {
  way : IsUnderWay (kept_of l.fn.self) (kept_of (record l.fn.self { ledger = l.ledger })) (take l.gone (replicate l.limit l.number)) l.number l.live l.slot l.code;
  within : l.gone ≤ l.limit;
  ahead : l.gone + cost_at l.code l.slot ≤ 2147483647;
  running : IsRunning (record l.fn.self { ledger = l.ledger }) l.number l.live;
}

abbrev pub decreases-loop-gone : goal.decreases-loop-gone
decreases-loop-gone l = l.limit - l.gone
