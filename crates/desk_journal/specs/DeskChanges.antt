-- The bytes of a desk's changes.
use Rattle.std.specs.Prelude.{ℕ, List, [], ◌∷◌, ◌++◌}
use Rattle.std.specs.Int.{w32, w64, to_le_bytes}
use Rattle.desk_journal.specs.Changes.{program_bytes, report_bytes}
use Rattle.desk_journal.specs.Encodings.{counted_bytes, list_bytes}
use Rattle.desk_journal.specs.declared.change.DeskChange.{DeskChange}
use Rattle.desk_journal.specs.declared.change.DeskChange.TheVariants.{Granted, Submitted, Finished, Failed, Forgotten, AccountOpened, JobsSkipped, ReportKept, FailureKept}

-- each form has a number of its own
abbrev pub tag_of : DeskChange → ℕ
tag_of (Granted tenant amount) = 1
tag_of (Submitted tenant programs credit buffer) = 2
tag_of (Finished job report) = 3
tag_of (Failed job code) = 4
tag_of (Forgotten ahead) = 6
tag_of (AccountOpened tenant granted spent) = 7
tag_of (JobsSkipped count) = 8
tag_of (ReportKept tenant credit report) = 9
tag_of (FailureKept tenant credit code) = 10

-- what stands behind that number
abbrev pub body_bytes : DeskChange → List ℕ
body_bytes (Granted tenant amount) = counted_bytes tenant.items ++ to_le_bytes w32 amount
body_bytes (Submitted tenant programs credit buffer) =
    counted_bytes tenant.items ++ (list_bytes program_bytes programs.items
    ++ (to_le_bytes w32 credit ++ counted_bytes buffer.items))
body_bytes (Finished job report) = to_le_bytes w64 job ++ report_bytes report
body_bytes (Failed job code) = to_le_bytes w64 job ++ (code ∷ [])
body_bytes (Forgotten ahead) = to_le_bytes w64 ahead
body_bytes (AccountOpened tenant granted spent) =
    counted_bytes tenant.items ++ (to_le_bytes w64 granted ++ to_le_bytes w64 spent)
body_bytes (JobsSkipped count) = to_le_bytes w64 count
body_bytes (ReportKept tenant credit report) =
    counted_bytes tenant.items ++ (to_le_bytes w32 credit ++ report_bytes report)
body_bytes (FailureKept tenant credit code) =
    counted_bytes tenant.items ++ (to_le_bytes w32 credit ++ (code ∷ []))

abbrev pub change_bytes : DeskChange → List ℕ
change_bytes change = (tag_of change ∷ []) ++ body_bytes change
