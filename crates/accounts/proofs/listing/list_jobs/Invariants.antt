use Rattle.std.proofs.Common.{◌≡◌, ◌≤◌, ◌+◌, ◌-◌, ◌++◌, length}
use Rattle.accounts.specs.Listing.{listed_from, most_listed}
use Rattle.accounts.proofs.listing.list_jobs.Given as goal

abbrev pub invariant-jobs : goal.invariant-jobs
invariant-jobs l = record {
  some : 1 ≤ l.number;
  so_far : listed_from l.fn.jobs l.fn.from ≡ l.found.items ++ listed_from l.fn.jobs l.number;
  few : length l.found.items ≤ most_listed;
}

abbrev pub decreases-jobs : goal.decreases-jobs
decreases-jobs l = length l.fn.jobs + 1 - l.number
