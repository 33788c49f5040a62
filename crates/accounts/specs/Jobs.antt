-- The jobs of a desk, by their numbers.
use Rattle.std.specs.Prelude.{ℕ, ◌+◌, ◌-◌, List, slice_get, nat_eq, if◌then◌else◌, Bool, true, false, Option, None, Result, Ok, Err, string_bytes}
use Rattle.std.specs.Str.{bytes_eq}
use Rattle.credit_book.specs.declared.book.Report.{Report}
use Rattle.accounts.specs.declared.fault.DeskFault.{DeskFault}
use Rattle.accounts.specs.declared.fault.DeskFault.TheVariants as fault
use Rattle.credit_book.specs.declared.board.Progress.{Progress}
use Rattle.accounts.specs.declared.jobs.JobEntry.{JobEntry}
use Rattle.accounts.specs.declared.jobs.JobStanding.{JobStanding}
use Rattle.accounts.specs.declared.jobs.JobStanding.TheVariants.{Open, Reported, Failed}

-- the job of a number; the first is number 1
abbrev pub job_at : List JobEntry → ℕ → Option JobEntry
job_at jobs number = if nat_eq number 0 then None else slice_get jobs (number - 1)

-- how a job of this credit stands once it is over: a report that doesn't account for the credit
-- counts as 82
abbrev pub settled : ℕ → Result Report ℕ → JobStanding
settled credit (Ok report) =
    if nat_eq (report.spent + report.returned) credit then Reported report else Failed 82
settled credit (Err code) = Failed code

-- what is told of how a job stands, where an open one was seen to have come so far
abbrev pub progress_of : JobStanding → Progress → Result Progress DeskFault
progress_of Open seen = Ok seen
progress_of (Reported report) seen =
    Ok (record { spent = report.spent; returned = report.returned; complete = true })
progress_of (Failed code) seen = Err (fault.Failed code)

abbrev pub report_of : JobStanding → Result Report DeskFault
report_of Open = Err fault.NotComplete
report_of (Reported report) = Ok report
report_of (Failed code) = Err (fault.Failed code)

-- the credit of a job while it is open, and what it spent
abbrev pub opened_in : JobEntry → JobStanding → ℕ
opened_in entry Open = entry.credit
opened_in entry (Reported report) = 0
opened_in entry (Failed code) = 0

abbrev pub spent_by_job : JobStanding → ℕ
spent_by_job Open = 0
spent_by_job (Reported report) = report.spent
spent_by_job (Failed code) = 0

abbrev pub is_open : JobStanding → Bool
is_open Open = true
is_open (Reported report) = false
is_open (Failed code) = false

-- the same, where the job is this tenant's
unfoldable pub opened_for : List ℕ → JobEntry → ℕ
opened_for name entry =
    if bytes_eq name (string_bytes entry.tenant) then opened_in entry entry.standing else 0

unfoldable pub spent_for : List ℕ → JobEntry → ℕ
spent_for name entry =
    if bytes_eq name (string_bytes entry.tenant) then spent_by_job entry.standing else 0
