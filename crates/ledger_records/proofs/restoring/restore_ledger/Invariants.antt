use Rattle.std.proofs.Common.{◌≡◌, ◌++◌, List, length}
use Rattle.desk_records.specs.declared.stored_job.StoredJob.{StoredJob}
use Rattle.desk_records.specs.declared.stored_outcome.StoredOutcome.{StoredOutcome}
use Rattle.ledger_records.specs.SoFar.{IsSoFar}
use Rattle.ledger_records.proofs.restoring.restore_ledger.Given as goal

abbrev pub invariant-rows : goal.invariant-rows
invariant-rows l =
    (done : List StoredJob) × (past : List StoredOutcome) × (l.records.jobs ≡ done ++ l.rows) × (l.records.outcomes ≡ past ++ l.outcomes) × IsSoFar l.number l.records.tenants done past l.desk l.open_jobs.items

abbrev pub decreases-rows : goal.decreases-rows
decreases-rows l = length l.rows
