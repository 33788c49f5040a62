-- What a log is told of a job's end, of a job that doesn't run, of a reply, and of a grant.
use Rattle.std.specs.Prelude.{◌≡◌, ℕ, ◌==◌, List, Option, Some, None, if◌then◌else◌, Result, Ok, Err, length}
use Rattle.refusal.specs.declared.NoMemory.{NoMemory}
use Rattle.credit_book.specs.declared.book.Report.{Report}
use Rattle.accounts.specs.declared.fault.DeskFault.{DeskFault}
use Rattle.accounts.specs.declared.tenants.Account.{Account}
use Rattle.server_log.specs.declared.log_line.LogEvent.{LogEvent}
use Rattle.server_log.specs.declared.log_line.LogEvent.TheVariants.{Ended, Failed, Refused}
use Rattle.streams.specs.Pending.{TellsCode}
use Rattle.streams.specs.declared.submit_refusal.SubmitRefusal.{SubmitRefusal}
use Rattle.streams.specs.declared.submit_refusal.SubmitRefusal.TheVariants.{NotTaken, NotStarted}

-- the numbers of its report, or that of its refusal
abbrev pub event_of : ℕ → Result Report ℕ → ℕ → LogEvent
event_of job (Ok report) ms =
    Ended job report.spent report.returned (length report.tasks.items) (length report.buffer.items) ms
event_of job (Err code) ms = Failed job code

-- a job that was taken has failed; that one wasn't its reply tells
abbrev pub refusal_event : SubmitRefusal → Option LogEvent
refusal_event (NotTaken code) = None
refusal_event (NotStarted job code) = Some (Failed job code)

-- What is told of a reply to a connection that is a refusal by this number, or none: the refusal,
-- unless it says that a job is still open.
abbrev pub code_event : ℕ → Option ℕ → Option LogEvent
code_event connection None = None
code_event connection (Some code) = if code == 77 then None else Some (Refused connection code)

-- this is told of a reply to a connection, if there is memory for the reply
abbrev pub IsToldOfReply : ℕ → Result (List ℕ) NoMemory → Option LogEvent → Type 0
IsToldOfReply connection (Ok reply) event =
    (code : Option ℕ) × TellsCode reply code × (event ≡ code_event connection code)
IsToldOfReply connection (Err none) event = event ≡ None

-- what a tenant with this account was granted; without one, nothing
abbrev pub granted_in : Result Account DeskFault → ℕ
granted_in (Ok account) = account.granted
granted_in (Err fault) = 0
