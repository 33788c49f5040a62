-- The row of each record, and the record of each row.
use Rattle.std.specs.Prelude.{◌<◌, ◌^◌, List, [], ◌∷◌, pos}
use Rattle.sqlite_value.specs.declared.value.Value.{Value}
use Rattle.sqlite_value.specs.declared.value.Value.TheVariants.{Null, Int, Real, Text, Blob}
use Rattle.sqlite_value.specs.Order.{Row, bytes, column}
use Rattle.sqlite_trees.specs.Objects.{number_in}
use Rattle.desk_records.specs.Columns.{id_of, most_numbers, number_below}
use Rattle.desk_records.specs.declared.stored_desk.StoredDesk.{StoredDesk}
use Rattle.desk_records.specs.declared.stored_job.StoredJob.{StoredJob}
use Rattle.desk_records.specs.declared.stored_key.StoredKey.{StoredKey}
use Rattle.desk_records.specs.declared.stored_outcome.StoredResult.{StoredResult}
use Rattle.desk_records.specs.declared.stored_outcome.StoredResult.TheVariants.{Failed, Reported}
use Rattle.desk_records.specs.declared.stored_outcome.StoredOutcome.{StoredOutcome}
use Rattle.desk_records.specs.declared.stored_outcome.StoredReport.{StoredReport}
use Rattle.desk_records.specs.declared.stored_tenant.StoredTenant.{StoredTenant}

-- ---- rows

abbrev pub tenant_row : StoredTenant → Row
tenant_row t =
    Int (pos t.number) ∷ Null ∷ Int (pos t.desk) ∷ Text t.name ∷ Int (pos t.granted)
    ∷ Int (pos t.spent) ∷ []

abbrev pub job_row : StoredJob → Row
job_row j =
    Int (pos (id_of j.desk j.number)) ∷ Null ∷ Int (pos j.desk) ∷ Int (pos j.number)
    ∷ Text j.tenant ∷ Int (pos j.credit) ∷ Blob j.programs ∷ Blob j.buffer ∷ []

-- a failure has a code, and a report all other columns
abbrev pub result_values : StoredResult → List Value
result_values (Failed code) = Int (pos code) ∷ Null ∷ Null ∷ Null ∷ Null ∷ []
result_values (Reported r) =
    Null ∷ Int (pos r.spent) ∷ Int (pos r.returned) ∷ Blob r.buffer ∷ Blob r.tasks ∷ []

abbrev pub outcome_row : StoredOutcome → Row
outcome_row o =
    Int (pos (id_of o.desk o.number)) ∷ Null ∷ Int (pos o.desk) ∷ Int (pos o.number)
    ∷ result_values o.outcome

abbrev pub desk_row : StoredDesk → Row
desk_row d = Int (pos d.desk) ∷ Null ∷ Int (pos d.taken) ∷ []

abbrev pub key_row : StoredKey → Row
key_row k =
    Int (pos (id_of k.desk k.number)) ∷ Null ∷ Int (pos k.desk) ∷ Int (pos k.number) ∷ Text k.key
    ∷ []

-- ---- numbers that a row holds

pub record IsNarrowTenant (t : StoredTenant) : Type 0 where
  pub number : t.number < 2 ^ 32
  pub desk : t.desk < 2 ^ 16
  pub granted : t.granted < 2 ^ 63
  pub spent : t.spent < 2 ^ 63

pub record IsNarrowJob (j : StoredJob) : Type 0 where
  pub desk : j.desk < 2 ^ 16
  pub number : j.number < most_numbers
  pub credit : j.credit < 2 ^ 32

abbrev pub IsNarrow : StoredResult → Type 0
IsNarrow (Failed code) = code < 2 ^ 8
IsNarrow (Reported r) = (r.spent < 2 ^ 32) × (r.returned < 2 ^ 32)

pub record IsNarrowOutcome (o : StoredOutcome) : Type 0 where
  pub desk : o.desk < 2 ^ 16
  pub number : o.number < most_numbers
  pub outcome : IsNarrow o.outcome

pub record IsNarrowDesk (d : StoredDesk) : Type 0 where
  pub desk : d.desk < 2 ^ 16
  pub taken : d.taken < 2 ^ 63

pub record IsNarrowKey (k : StoredKey) : Type 0 where
  pub desk : k.desk < 2 ^ 16
  pub number : k.number < most_numbers

-- ---- the record that has a row, if one has it

abbrev pub tenant_of_row : Row → StoredTenant
tenant_of_row r =
    record {
      number = number_below 4294967296 (number_in (column r 0));
      desk = number_below 65536 (number_in (column r 2));
      name = bytes (column r 3);
      granted = number_in (column r 4);
      spent = number_in (column r 5);
    }

abbrev pub job_of_row : Row → StoredJob
job_of_row r =
    record {
      desk = number_below 65536 (number_in (column r 2));
      number = number_in (column r 3);
      tenant = bytes (column r 4);
      credit = number_below 4294967296 (number_in (column r 5));
      programs = bytes (column r 6);
      buffer = bytes (column r 7);
    }

abbrev pub report_of_row : Row → StoredReport
report_of_row r =
    record {
      spent = number_below 4294967296 (number_in (column r 5));
      returned = number_below 4294967296 (number_in (column r 6));
      buffer = bytes (column r 7);
      tasks = bytes (column r 8);
    }

-- by the code, or else a report
abbrev pub result_by : Value → Row → StoredResult
result_by Null r = Reported (report_of_row r)
result_by (Int number) r = Failed (number_below 256 (number_in (Int number)))
result_by (Real number) r = Failed (number_below 256 (number_in (Real number)))
result_by (Text text) r = Failed (number_below 256 (number_in (Text text)))
result_by (Blob blob) r = Failed (number_below 256 (number_in (Blob blob)))

abbrev pub result_of_row : Row → StoredResult
result_of_row r = result_by (column r 4) r

abbrev pub outcome_of_row : Row → StoredOutcome
outcome_of_row r =
    record {
      desk = number_below 65536 (number_in (column r 2));
      number = number_in (column r 3);
      outcome = result_of_row r;
    }

abbrev pub desk_of_row : Row → StoredDesk
desk_of_row r =
    record { desk = number_below 65536 (number_in (column r 0)); taken = number_in (column r 2) }

abbrev pub key_of_row : Row → StoredKey
key_of_row r =
    record {
      desk = number_below 65536 (number_in (column r 2));
      number = number_in (column r 3);
      key = bytes (column r 4);
    }
