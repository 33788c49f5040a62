-- The records that each change makes of others.
use Rattle.std.specs.Prelude.{ℕ, ℤ, pos, List, Option, Some, None, fold}
use Rattle.sqlite_keyed.specs.Keyed.{insert_by}
use Rattle.sqlite_keyed.specs.Lists.{without_key}
use Rattle.desk_records.specs.Columns.{id_of}
use Rattle.desk_records.specs.Stored.{Ledgers}
use Rattle.desk_records.specs.declared.stored_change.StoredChange.{StoredChange}
use Rattle.desk_records.specs.declared.stored_change.StoredChange.TheVariants.{Granted, Taken, Settled, Forgotten}
use Rattle.desk_records.specs.declared.stored_change.NotedKey.{NotedKey}
use Rattle.desk_records.specs.declared.stored_desk.StoredDesk.{StoredDesk}
use Rattle.desk_records.specs.declared.stored_job.StoredJob.{StoredJob}
use Rattle.desk_records.specs.declared.stored_key.StoredKey.{StoredKey}
use Rattle.desk_records.specs.declared.stored_outcome.StoredOutcome.{StoredOutcome}
use Rattle.desk_records.specs.declared.stored_tenant.StoredTenant.{StoredTenant}

abbrev pub tenant_key : StoredTenant → ℤ
tenant_key t = pos t.number

abbrev pub stored_job_key : StoredJob → ℤ
stored_job_key j = pos (id_of j.desk j.number)

abbrev pub outcome_key : StoredOutcome → ℤ
outcome_key o = pos (id_of o.desk o.number)

abbrev pub desk_key : StoredDesk → ℤ
desk_key d = pos d.desk

abbrev pub key_id : StoredKey → ℤ
key_id k = pos (id_of k.desk k.number)

-- the records of a desk but those of the jobs of these numbers
abbrev pub jobs_left : ℕ → List StoredJob → List ℕ → List StoredJob
jobs_left desk =
    fold (λ jobs number. without_key stored_job_key jobs (pos (id_of desk number)))

abbrev pub outcomes_left : ℕ → List StoredOutcome → List ℕ → List StoredOutcome
outcomes_left desk =
    fold (λ outcomes number. without_key outcome_key outcomes (pos (id_of desk number)))

-- the keys that are remembered, without one that is dropped, and with one that is noted
abbrev pub keys_but : ℕ → List StoredKey → Option ℕ → List StoredKey
keys_but desk keys None = keys
keys_but desk keys (Some number) = without_key key_id keys (pos (id_of desk number))

abbrev pub keys_noted : List StoredKey → Option NotedKey → List StoredKey
keys_noted keys None = keys
keys_noted keys (Some k) = keys_but k.key.desk (insert_by key_id keys k.key) k.dropped

-- a record is in its place, and in place of one that has its key; a job that is forgotten is gone
abbrev pub made : Ledgers → StoredChange → Ledgers
made l (Granted tenant) = record l { tenants = insert_by tenant_key l.tenants tenant }
made l (Taken t) = record l {
  jobs = insert_by stored_job_key l.jobs t.job;
  keys = keys_noted l.keys t.key;
}
made l (Settled s) = record l {
  tenants = insert_by tenant_key l.tenants s.tenant;
  outcomes = insert_by outcome_key l.outcomes s.outcome;
}
made l (Forgotten f) = record l {
  jobs = jobs_left f.desk.desk l.jobs f.numbers.items;
  outcomes = outcomes_left f.desk.desk l.outcomes f.numbers.items;
  desks = insert_by desk_key l.desks f.desk;
}

-- the first of them first
abbrev pub all_made : Ledgers → List StoredChange → Ledgers
all_made = fold made
