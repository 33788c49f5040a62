use Rattle.std.proofs.Common.{◌≡◌, take}
use Rattle.accounts.specs.Ledgers.{spent_by_jobs}
use Rattle.accounts.proofs.restoring.spent_by.Given as goal

abbrev pub invariant-loop-number : goal.invariant-loop-number
invariant-loop-number l = l.spent ≡ spent_by_jobs (take l.number l.jobs) l.name
