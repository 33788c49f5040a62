use Rattle.std.specs.BTreeMap.{btree_map_len}
use Rattle.accounts.specs.Numbered.{jobs_numbered}
use Rattle.accounts.proofs.Forgets.{IsKept}
use Rattle.accounts.proofs.kept_jobs.KeptJobs.keep_within.Given as goal

abbrev pub invariant-loop-number : goal.invariant-loop-number
invariant-loop-number l = IsKept l.limits (jobs_numbered l.initial.self) l.ahead l.self

abbrev pub decreases-loop-number : goal.decreases-loop-number
decreases-loop-number l = btree_map_len l.self.kept
