use Rattle.std.proofs.Common.{◌≡◌, ◌⊎◌, ◌+◌, ◌-◌, ◌≤◌}
use Rattle.accounts.proofs.NextKept.{AreGoneTo}
use Rattle.accounts.proofs.job_list.Jobs.next_kept.Given as goal

abbrev pub invariant-loop-next : goal.invariant-loop-next
invariant-loop-next l = record {
  gone : AreGoneTo l.self l.number l.next;
  first : (l.next ≡ l.number) ⊎ (l.next ≤ l.last + 1);
}

abbrev pub decreases-loop-next : goal.decreases-loop-next
decreases-loop-next l = l.last + 1 - l.next
