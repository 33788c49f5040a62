-- The lines of changes, one behind the other.
use Rattle.std.specs.Prelude.{ℕ, ◌+◌, ◌-◌, ◌^◌, List, [], ◌∷◌, ◌++◌, length, min}
use Rattle.serde_json.specs.Written.{compact_text}
use Rattle.journal.specs.Records.{record_of}
use Rattle.desk_journal.specs.declared.change.DeskChange.{DeskChange}
use Rattle.desk_journal.specs.declared.change.DeskChange.TheVariants.{Granted, Submitted, Finished, Failed, Forgotten, AccountOpened, JobsSkipped, ReportKept, FailureKept}
use Rattle.keyed_desk.specs.KeyedChanges.{keyed_bytes}
use Rattle.keyed_desk.specs.declared.keyed_change.KeyedChange.{KeyedChange}
use Rattle.keyed_desk.specs.declared.keyed_change.KeyedChange.TheVariants.{Plain, ByKey, KeyKept}
use Rattle.journal_text.specs.KeyedData.{keyed_data}

-- the object of a change, on a line
abbrev pub change_line : ℕ → ℕ → KeyedChange → List ℕ
change_line at number change = compact_text (keyed_data at number change) ++ 10 ∷ []

-- The number of the next job, where it was this one ahead of a change of the desk. It goes up to
-- 2^64 - 1 at most.
abbrev pub next_number : ℕ → DeskChange → ℕ
next_number number (Granted tenant amount) = number
next_number number (Submitted tenant programs credit buffer) = min (number + 1) (2 ^ 64 - 1)
next_number number (Finished job report) = number
next_number number (Failed job code) = number
next_number number (Forgotten ahead) = number
next_number number (AccountOpened tenant granted spent) = number
next_number number (JobsSkipped count) = min (number + count) (2 ^ 64 - 1)
next_number number (ReportKept tenant credit report) = min (number + 1) (2 ^ 64 - 1)
next_number number (FailureKept tenant credit code) = min (number + 1) (2 ^ 64 - 1)

-- the number of the next job behind a change
abbrev pub number_behind : ℕ → KeyedChange → ℕ
number_behind number (Plain change) = next_number number change
number_behind number (ByKey key change) = next_number number change
number_behind number (KeyKept job key) = number

-- the lines of changes, of which the first has its record at this byte, and the first job this number
abbrev pub lines_from : ℕ → ℕ → List KeyedChange → List ℕ
lines_from at number [] = []
lines_from at number (change ∷ changes) =
    change_line at number change
    ++ lines_from (at + length (record_of (keyed_bytes change))) (number_behind number change) changes

-- the lines of a journal's changes
abbrev pub lines_of : List KeyedChange → List ℕ
lines_of changes = lines_from 0 1 changes
