use Rattle.std.proofs.Common.{◌≤◌, ℕ}
use Rattle.std.specs.BTreeMap.{btree_map_len}
use Rattle.accounts.specs.Numbered.{jobs_numbered}
use Rattle.accounts.proofs.Forgets.{IsForgotten}
use Rattle.accounts.proofs.kept_jobs.KeptJobs.forget.Given as goal

abbrev pub invariant-loop-number : goal.invariant-loop-number
invariant-loop-number l = (done : ℕ) × (done ≤ l.ahead) × IsForgotten (jobs_numbered l.initial.self) done l.self

abbrev pub decreases-loop-number : goal.decreases-loop-number
decreases-loop-number l = btree_map_len l.self.kept
