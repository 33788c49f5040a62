-- Each record has a row of its table, and is the record of that row.
use Rattle.std.proofs.Common.{◌≡◌, ℕ, ◌<◌, ◌^◌, List, [], ◌∷◌, pos, refl, nat_lt, arith, true}
use Rattle.std.proofs.lemmas.Bool.Decides.{nat_tests}
use Rattle.sqlite_value.specs.declared.value.Value.TheVariants.{Int, Text, Blob}
use Rattle.desk_store.specs.declared.table.StoreTable.TheVariants.{Tenant, Job, Outcome, Desk, Key}
use Rattle.desk_store.specs.Tables.{IsRowOf, columns_of, fits}
use Rattle.desk_records.specs.Columns.{id_of, number_below}
use Rattle.desk_records.specs.Records.{IsNarrow, IsNarrowDesk, IsNarrowJob, IsNarrowKey, IsNarrowOutcome, IsNarrowTenant, desk_of_row, desk_row, outcome_of_row, outcome_row, job_of_row, job_row, key_of_row, key_row, result_values, tenant_of_row, tenant_row}
use Rattle.desk_records.specs.declared.stored_desk.StoredDesk.{StoredDesk}
use Rattle.desk_records.specs.declared.stored_job.StoredJob.{StoredJob}
use Rattle.desk_records.specs.declared.stored_key.StoredKey.{StoredKey}
use Rattle.desk_records.specs.declared.stored_outcome.StoredResult.{StoredResult}
use Rattle.desk_records.specs.declared.stored_outcome.StoredResult.TheVariants.{Failed, Reported}
use Rattle.desk_records.specs.declared.stored_outcome.StoredOutcome.{StoredOutcome}
use Rattle.desk_records.specs.declared.stored_tenant.StoredTenant.{StoredTenant}

pub itself : (limit number : ℕ) → number < limit → number_below limit number ≡ number
itself limit number less =
    let is : nat_lt number limit ≡ true = grind (arith, nat_tests) in
    rw is refl

pub tenant_is_row : (t : StoredTenant) → IsRowOf Tenant (tenant_row t)
tenant_is_row t = record { key = pos t.number; values = Int (pos t.desk) ∷ Text t.name ∷ Int (pos t.granted) ∷ Int (pos t.spent) ∷ []; is = refl; fit = refl }

pub tenant_back : (t : StoredTenant) → IsNarrowTenant t → tenant_of_row (tenant_row t) ≡ t
tenant_back t narrow = rw (itself 4294967296 t.number (omega (arith, narrow.number)), itself 65536 t.desk (omega (arith, narrow.desk))) refl

pub job_is_row : (j : StoredJob) → IsRowOf Job (job_row j)
job_is_row j = record {
  key = pos (id_of j.desk j.number);
  values = Int (pos j.desk) ∷ Int (pos j.number) ∷ Text j.tenant ∷ Int (pos j.credit) ∷ Blob j.programs ∷ Blob j.buffer ∷ [];
  is = refl;
  fit = refl;
}

pub job_back : (j : StoredJob) → IsNarrowJob j → job_of_row (job_row j) ≡ j
job_back j narrow = rw (itself 65536 j.desk (omega (arith, narrow.desk)), itself 4294967296 j.credit (omega (arith, narrow.credit))) refl

result_fits : (o : StoredOutcome) (outcome : StoredResult) → fits (columns_of Outcome) (Int (pos o.desk) ∷ Int (pos o.number) ∷ result_values outcome) ≡ true
result_fits o (Failed code) = refl
result_fits o (Reported report) = refl

pub outcome_is_row : (o : StoredOutcome) → IsRowOf Outcome (outcome_row o)
outcome_is_row o = record { key = pos (id_of o.desk o.number); values = Int (pos o.desk) ∷ Int (pos o.number) ∷ result_values o.outcome; is = refl; fit = result_fits o o.outcome }

outcome_of_result : (desk number : ℕ) (outcome : StoredResult) → desk < 2 ^ 16 → IsNarrow outcome → outcome_of_row (outcome_row (record { desk = desk; number = number; outcome = outcome })) ≡ record { desk = desk; number = number; outcome = outcome }
outcome_of_result desk number (Failed code) of narrow = rw (itself 65536 desk (omega (arith, of)), itself 256 code (omega (arith, narrow))) refl
outcome_of_result desk number (Reported r) of narrow = rw (itself 65536 desk (omega (arith, of)), itself 4294967296 r.spent (omega (arith, narrow.0)), itself 4294967296 r.returned (omega (arith, narrow.1))) refl

pub outcome_back : (o : StoredOutcome) → IsNarrowOutcome o → outcome_of_row (outcome_row o) ≡ o
outcome_back o narrow = outcome_of_result o.desk o.number o.outcome narrow.desk narrow.outcome

pub desk_is_row : (d : StoredDesk) → IsRowOf Desk (desk_row d)
desk_is_row d = record { key = pos d.desk; values = Int (pos d.taken) ∷ []; is = refl; fit = refl }

pub desk_back : (d : StoredDesk) → IsNarrowDesk d → desk_of_row (desk_row d) ≡ d
desk_back d narrow = rw (itself 65536 d.desk (omega (arith, narrow.desk))) refl

pub key_is_row : (k : StoredKey) → IsRowOf Key (key_row k)
key_is_row k = record { key = pos (id_of k.desk k.number); values = Int (pos k.desk) ∷ Int (pos k.number) ∷ Text k.key ∷ []; is = refl; fit = refl }

pub key_back : (k : StoredKey) → IsNarrowKey k → key_of_row (key_row k) ≡ k
key_back k narrow = rw (itself 65536 k.desk (omega (arith, narrow.desk))) refl
