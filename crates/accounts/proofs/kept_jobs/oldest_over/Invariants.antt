use Rattle.accounts.proofs.Scanning.{AreScanned}
use Rattle.accounts.proofs.kept_jobs.oldest_over.Given as goal

abbrev pub invariant-loop-number : goal.invariant-loop-number
invariant-loop-number l =
    (goal.iterator-loop-number).can_next l.number-iterator ×
    (goal.iterator-loop-number).is_finite l.number-iterator ×
    AreScanned l.kept.entries l.number-iterator
