-- What is answered to a frame by a desk and a runner.
use Rattle.std.specs.Prelude.{◌≡◌, ◌⊎◌, ◌≤◌, ◌+◌, ℕ, List, length, map, Option, Some, None, Result, Ok, Err, IfOk, unwrap_or}
use Rattle.refusal.specs.declared.NoMemory.{NoMemory}
use Rattle.serde_json.specs.Data.{Data}
use Rattle.credit_book.specs.declared.book.Report.{Report}
use Rattle.credit_book.specs.declared.board.Progress.{Progress}
use Rattle.job_core.specs.declared.admission.ProgramBytes.{ProgramBytes}
use Rattle.job_core.specs.Admitted as core
use Rattle.job_core.specs.Admission.{IsAdmittedFrom}
use Rattle.accounts.specs.declared.fault.DeskFault.{DeskFault}
use Rattle.accounts.specs.declared.fault.SubmitFault.{SubmitFault}
use Rattle.accounts.specs.declared.tenants.Account.{Account}
use Rattle.accounts.specs.declared.jobs.JobEntry.{JobEntry}
use Rattle.accounts.specs.declared.jobs.JobStanding.TheVariants.{Open}
use Rattle.accounts.specs.Jobs.{job_at}
use Rattle.accounts.specs.Faults.{desk_code, submit_code, submit_program, submit_slot}
use Rattle.accounts.specs.Ledgers.{Ledger, granted_to, most_granted, GrantsMore, RefusesGrant, Takes, RefusesSubmit, Finishes, account_at, progress_at, report_at}
use Rattle.sessions.specs.Grammar.{Asked, grant, account, submit, status, result, program_asked}
use Rattle.sessions.specs.Replies.{refusal_data, account_data, submit_data, status_data, result_data, reply_data, frame_of}
use Rattle.sessions.specs.declared.reply.Reply.{Reply}
use Rattle.streams.specs.Passing.{Passes}

-- ---- what is told

abbrev pub refused : ℕ → Data
refused code = refusal_data code None None

abbrev pub account_told : Result Account DeskFault → Data
account_told (Ok a) = account_data a.balance a.granted a.opened a.spent
account_told (Err fault) = refused (desk_code fault)

abbrev pub progress_told : Result Progress DeskFault → Data
progress_told (Ok p) = status_data p.complete p.returned p.spent
progress_told (Err fault) = refused (desk_code fault)

abbrev pub report_told : Result Report DeskFault → Data
report_told (Ok r) = result_data r.buffer.items r.returned r.spent r.tasks.items
report_told (Err fault) = refused (desk_code fault)

abbrev pub submit_refused : SubmitFault → Data
submit_refused fault = refusal_data (submit_code fault) (submit_program fault) (submit_slot fault)

-- ---- what is done

-- a grant is made within the limit of all, and the account is told as it is then
pub record Grants (desk : Ledger) (name : List ℕ) (amount : ℕ) (told : Data) (after : Ledger) :
    Type 0 where
  pub within : unwrap_or (granted_to desk name) 0 + amount ≤ most_granted
  pub more : GrantsMore desk name amount after
  pub account : Account
  pub is : account_at after name ≡ Ok account
  pub tells : told ≡ account_told (Ok account)

-- or it isn't, and nothing changes
pub record GrantsNone (desk : Ledger) (name : List ℕ) (amount : ℕ) (told : Data) (after : Ledger) :
    Type 0 where
  pub fault : DeskFault
  pub why : RefusesGrant desk name amount fault
  pub same : after ≡ desk
  pub tells : told ≡ refused (desk_code fault)

-- an open job has this number
abbrev pub IsOpenJob : Ledger → ℕ → Type 0
IsOpenJob desk number = (entry : JobEntry) × (job_at desk.jobs number ≡ Some entry)
    × (entry.standing ≡ Open)

-- a start that is refused ends the job with its number
abbrev pub Settles : Ledger → ℕ → Result (Unit {0}) ℕ → Ledger → Type 0
Settles desk number (Ok started) after = after ≡ desk
Settles desk number (Err code) after = Finishes desk number (Err code) after

-- a job that was taken under this number is started, and the number is told
pub record StartsTaken {R : Type 0} (starts : R → ℕ → core.AdmittedJob → Result (Unit {0}) ℕ → R
    → Type 0) (desk : Ledger) (runner : R) (number : ℕ) (job : core.AdmittedJob) (told : Data)
    (after : Ledger) (left : R) : Type 0 where
  pub outcome : Result (Unit {0}) ℕ
  pub starts_job : starts runner number job outcome left
  pub settles : Settles desk number outcome after
  pub tells : told ≡ submit_data number

-- a job is taken, and started under its number, which is told
pub record TakesJob {R : Type 0} (starts : R → ℕ → core.AdmittedJob → Result (Unit {0}) ℕ → R
    → Type 0) (desk : Ledger) (runner : R) (name : List ℕ) (programs : List ProgramBytes)
    (credit : ℕ) (buffer : List ℕ) (told : Data) (after : Ledger) (left : R) : Type 0 where
  pub mid : Ledger
  pub takes : Takes desk name credit mid
  pub job : core.AdmittedJob
  pub admitted : IsAdmittedFrom programs credit buffer job
  pub outcome : Result (Unit {0}) ℕ
  pub starts_job : starts runner (length mid.jobs) job outcome left
  pub settles : Settles mid (length mid.jobs) outcome after
  pub tells : told ≡ submit_data (length mid.jobs)

-- or it isn't, and nothing changes
pub record TakesNone {R : Type 0} (desk : Ledger) (runner : R) (name : List ℕ)
    (programs : List ProgramBytes) (credit : ℕ) (buffer : List ℕ) (told : Data) (after : Ledger)
    (left : R) : Type 0 where
  pub fault : SubmitFault
  pub why : RefusesSubmit desk name programs credit buffer fault
  pub same : after ≡ desk
  pub same_runner : left ≡ runner
  pub tells : told ≡ submit_refused fault

abbrev pub Submits : {R : Type 0} → (R → ℕ → core.AdmittedJob → Result (Unit {0}) ℕ → R → Type 0)
    → Ledger → R → List ℕ → List ProgramBytes → ℕ → List ℕ → Data → Ledger → R → Type 0
Submits starts desk runner name programs credit buffer told after left =
    TakesJob starts desk runner name programs credit buffer told after left
    ⊎ TakesNone desk runner name programs credit buffer told after left

-- What is told to what a frame asks, or to the number of its refusal, and the desk and the runner
-- after it. An open job's status is what the runner's look tells.
unfoldable pub Replies : {R : Type 0} → (R → ℕ → core.AdmittedJob → Result (Unit {0}) ℕ → R
    → Type 0) → (R → ℕ → Progress → R → Type 0) → Ledger → R → Result Asked ℕ → Data → Ledger → R
    → Type 0
Replies starts looks desk runner (Err code) told after left =
    (told ≡ refused code) × (after ≡ desk) × (left ≡ runner)
Replies starts looks desk runner (Ok (grant name amount)) told after left =
    (Grants desk name amount told after ⊎ GrantsNone desk name amount told after) × (left ≡ runner)
Replies starts looks desk runner (Ok (account name)) told after left =
    (told ≡ account_told (account_at desk name)) × (after ≡ desk) × (left ≡ runner)
Replies starts looks desk runner (Ok (submit name order)) told after left =
    (programs : List ProgramBytes) × (map program_asked programs ≡ order.programs)
    × Submits starts desk runner name programs order.credit order.buffer told after left
Replies starts looks desk runner (Ok (status number)) told after left =
    (seen : Progress) × looks runner number seen left
    × (told ≡ progress_told (progress_at desk number seen)) × (after ≡ desk)
Replies starts looks desk runner (Ok (result number)) told after left =
    (told ≡ report_told (report_at desk number)) × (after ≡ desk) × (left ≡ runner)

-- Every finished job is passed to the desk, and then what the frame asks is answered by a frame.
pub record Answers {R : Type 0} (starts : R → ℕ → core.AdmittedJob → Result (Unit {0}) ℕ → R
    → Type 0) (looks : R → ℕ → Progress → R → Type 0) (takes : R → Option (ℕ × Result Report ℕ) → R
    → Type 0) (desk : Ledger) (runner : R) (query : Result Asked ℕ) (reply : List ℕ)
    (after : Ledger) (left : R) : Type 0 where
  pub mid : Ledger
  pub rest : R
  pub passed : Passes takes desk runner mid rest
  pub told : Reply
  pub replies : Replies starts looks mid rest query (reply_data told) after left
  pub frame : reply ≡ frame_of told

-- what was done is told by a reply, and these are the bytes of its frame, where that finds memory
pub record Framed (result : Result (List ℕ) NoMemory) (done : Data → Type 0) : Type 0 where
  pub told : Reply
  pub was : done (reply_data told)
  pub frame : IfOk result (λ bytes. bytes ≡ frame_of told)
