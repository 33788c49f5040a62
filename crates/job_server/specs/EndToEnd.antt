-- From a submit to its result: the meaning of a server's replies.
use Rattle.std.specs.Prelude.{◌≡◌, ◌⊎◌, ◌≤◌, ◌+◌, ◌-◌, ℕ, List, [], ◌∷◌, ◌++◌, length, map, slice_get, nat_eq, if◌then◌else◌, Option, Some, None, Result, Ok, Err}
use Rattle.serde_json.specs.Data.{Data}
use Rattle.serde_json.specs.Written.{compact_text}
use Rattle.credit_book.specs.declared.book.Report.{Report}
use Rattle.credit_book.specs.declared.event.TaskEnd.{TaskEnd}
use Rattle.job_core.specs.declared.admission.ProgramBytes.{ProgramBytes}
use Rattle.job_core.specs.Admitted.{AdmittedJob}
use Rattle.job_core.specs.Admission.{IsAdmittedFrom}
use Rattle.accounts.specs.declared.keep_limits.KeepLimits.{KeepLimits}
use Rattle.accounts.specs.declared.fault.SubmitFault.{SubmitFault}
use Rattle.sessions.specs.Frames.{framed}
use Rattle.sessions.specs.Grammar.{Asked, submit, result, program_asked}
use Rattle.sessions.specs.Replies.{submit_data, result_data, frame_or_refusal}
use Rattle.streams.specs.Answering.{refused, submit_refused}
use Rattle.shared_desk.specs.Histories.{HistoryEntry, Replays, by_any_passage}
use Rattle.job_pools.specs.Endings.{IsRun}
use Rattle.job_server.specs.declared.bounds.Bounds.{Bounds}
use Rattle.job_server.specs.AtOnce.{Pool, Hosted, hosted_answers, new_host}

-- a history that a server within these bounds may have, from its start on
pub record IsHostHistory (bounds : Bounds) (history : List HistoryEntry) : Type 0 where
  pub first : Pool
  pub end : Hosted
  pub legal : Replays (by_any_passage hosted_answers) (λ s. s ≡ new_host bounds first) history end

-- the reply of the entry is the frame of this
abbrev pub HasReply : HistoryEntry → Data → Type 0
HasReply e told = e.reply ≡ frame_or_refusal told

-- ---- submits

-- a request for a job, as its client asks it
abbrev pub submit_of : List ℕ → List ProgramBytes → ℕ → List ℕ → Asked
submit_of name programs credit buffer = submit name (record {
  programs = map program_asked programs;
  credit = credit;
  buffer = buffer;
})

-- The entry asks for a job. Its programs, credit and buffer are admitted as this one, and it is
-- told this number.
pub record IsSubmit (e : HistoryEntry) (number : ℕ) (job : AdmittedJob) : Type 0 where
  pub name : List ℕ
  pub programs : List ProgramBytes
  pub credit : ℕ
  pub buffer : List ℕ
  pub asks : e.query.asked ≡ Ok (submit_of name programs credit buffer)
  pub admitted : IsAdmittedFrom programs credit buffer job
  pub tells : HasReply e (submit_data number)

-- the request is one for a job
abbrev pub AsksForJob : Result Asked ℕ → Type 0
AsksForJob (Ok (submit name order)) = Unit {0}
AsksForJob other = ⊥

-- the entry asks for no job, or is told why its job isn't taken
abbrev pub TakesNoJob : HistoryEntry → Type 0
TakesNoJob e =
    (AsksForJob e.query.asked → ⊥) ⊎ ((fault : SubmitFault) × HasReply e (submit_refused fault))

-- The jobs that a history took, in order. The first is number 1, and each submit is told the next
-- number.
pub data AreTaken : List HistoryEntry → List AdmittedJob → Type 0 where
  none_yet : AreTaken [] []
  one_more : (history : List HistoryEntry) (jobs : List AdmittedJob) (e : HistoryEntry)
      (job : AdmittedJob)
      → AreTaken history jobs → IsSubmit e (length jobs + 1) job
      → AreTaken (history ++ e ∷ []) (jobs ++ job ∷ [])
  no_more : (history : List HistoryEntry) (jobs : List AdmittedJob) (e : HistoryEntry)
      → AreTaken history jobs
      → TakesNoJob e → AreTaken (history ++ e ∷ []) jobs

-- the job of a number
abbrev pub taken_at : List AdmittedJob → ℕ → Option AdmittedJob
taken_at jobs number = if nat_eq number 0 then None else slice_get jobs (number - 1)

-- ---- results

-- the request is one for the result of this number
abbrev pub AsksForResult : ℕ → Result Asked ℕ → Type 0
AsksForResult number query = query ≡ Ok (result number)

-- a report, as the JSON of a result
abbrev pub report_data : Report → Data
report_data r = result_data r.buffer.items r.returned r.spent r.tasks.items

-- the job's start was refused by 81 or 99, or there was no memory for its answer: 99
abbrev pub FailsBy : ℕ → Type 0
FailsBy code = (code ≡ 81) ⊎ (code ≡ 99)

-- Of so many jobs the one of this number may be forgotten: it is ahead of the last ones that are
-- kept, or what reports hold is bounded.
abbrev pub MayBeForgotten : KeepLimits → ℕ → ℕ → Type 0
MayBeForgotten keep number count =
    ((1 ≤ keep.jobs) × (number + keep.jobs ≤ count)) ⊎ (1 ≤ keep.bytes)

-- The result of a number, after these jobs, at a server that keeps so many reports: the report of a
-- run of the very job that has the number, or a refusal with its cause. Nothing else is one.
pub data IsResultOf (keep : KeepLimits) (jobs : List AdmittedJob) (number : ℕ) :
    Data → Type 0 where
  reported : (job : AdmittedJob) (report : Report) → taken_at jobs number ≡ Some job
      → IsRun number job report → IsResultOf keep jobs number (report_data report)
  failed : (job : AdmittedJob) (code : ℕ) → taken_at jobs number ≡ Some job
      → FailsBy code → IsResultOf keep jobs number (refused code)
  not_over : (job : AdmittedJob) → taken_at jobs number ≡ Some job
      → IsResultOf keep jobs number (refused 77)
  forgotten : (job : AdmittedJob) → taken_at jobs number ≡ Some job
      → MayBeForgotten keep number (length jobs) → IsResultOf keep jobs number (refused 76)
  unknown : taken_at jobs number ≡ None → IsResultOf keep jobs number (refused 76)

-- The entry is told the result of the number, after the jobs that were taken before it.
pub record IsToldResult (keep : KeepLimits) (before : List HistoryEntry) (number : ℕ)
    (e : HistoryEntry) : Type 0 where
  pub jobs : List AdmittedJob
  pub taken : AreTaken before jobs
  pub told : Data
  pub tells : HasReply e told
  pub is_result : IsResultOf keep jobs number told

-- A refusal that is told in place of a result is one of those, with its cause. Or it is 65, for a
-- report that no frame holds.
pub record IsToldRefusal (keep : KeepLimits) (before : List HistoryEntry) (number code : ℕ) :
    Type 0 where
  pub jobs : List AdmittedJob
  pub taken : AreTaken before jobs
  pub is_result : IsResultOf keep jobs number (refused code) ⊎ (code ≡ 65)

-- Both entries ask for one result, the second later. Once the job is over, what is told of it stays
-- the same until it is forgotten.
abbrev pub StaysTold : HistoryEntry → HistoryEntry → Type 0
StaysTold e f = HasReply e (refused 76) ⊎ HasReply e (refused 77) ⊎ (f.reply ≡ e.reply)
    ⊎ HasReply f (refused 76)

-- the bytes are the frame of some result
pub record IsResultFrame (reply : List ℕ) : Type 0 where
  pub buffer : List ℕ
  pub returned : ℕ
  pub spent : ℕ
  pub tasks : List TaskEnd
  pub frame : reply ≡ framed (compact_text (result_data buffer returned spent tasks))

-- Before the entry a job was asked for, and its submit was told this number. The entry is told the
-- report of a run of this very job.
pub record ComesFromSubmit (before : List HistoryEntry) (number : ℕ) (e : HistoryEntry) :
    Type 0 where
  pub earlier : List HistoryEntry
  pub asked : HistoryEntry
  pub between : List HistoryEntry
  pub is_before : before ≡ earlier ++ asked ∷ between
  pub job : AdmittedJob
  pub is_submit : IsSubmit asked number job
  pub report : Report
  pub run : IsRun number job report
  pub tells : HasReply e (report_data report)
