-- From a submit to its result: the meaning of the replies of a server that has one desk.
use Rattle.std.specs.Prelude.{◌≡◌, ◌≢◌, ◌⊎◌, ◌≤◌, ◌<◌, ◌+◌, ◌-◌, ◌^◌, ℕ, List, [], ◌∷◌, ◌++◌, length, map, slice_get, nat_eq, if◌then◌else◌, Option, Some, None, Result, Ok, Err}
use Rattle.serde_json.specs.Data.{Data}
use Rattle.serde_json.specs.Written.{compact_text}
use Rattle.credit_book.specs.declared.book.Report.{Report}
use Rattle.credit_book.specs.declared.board.Progress.{Progress}
use Rattle.credit_book.specs.declared.event.TaskEnd.{TaskEnd}
use Rattle.job_core.specs.declared.admission.ProgramBytes.{ProgramBytes}
use Rattle.job_core.specs.Admitted.{AdmittedJob}
use Rattle.job_core.specs.Admission.{IsAdmittedFrom}
use Rattle.accounts.specs.Jobs.{job_at}
use Rattle.accounts.specs.declared.fault.SubmitFault.{SubmitFault}
use Rattle.accounts.specs.declared.jobs.JobEntry.{JobEntry}
use Rattle.accounts.specs.declared.jobs.JobStanding.{JobStanding}
use Rattle.accounts.specs.declared.jobs.JobStanding.TheVariants.{Open, Reported, Failed}
use Rattle.accounts.specs.declared.keep_limits.KeepLimits.{KeepLimits}
use Rattle.sessions.specs.Frames.{framed}
use Rattle.sessions.specs.Grammar.{Asked, submit, result, program_asked}
use Rattle.sessions.specs.JobKeys.{job_among, latest}
use Rattle.sessions.specs.Replies.{frame_or_refusal, result_data}
use Rattle.sessions.specs.declared.job_key.KeyedJob.{KeyedJob}
use Rattle.streams.specs.Answering.{refused, submit_refused}
use Rattle.server_state.specs.declared.job_id.JobId.{JobId}
use Rattle.server_state.specs.Desks.{refusal_frame, submit_frame}
use Rattle.server_state.specs.Histories.{ServerEvent, was_asked, has_ended}
use Rattle.server_state.specs.Keyed.{AreKeyed, event_key, frame_of_event}
use Rattle.server_state.specs.Queries.{Query, plain, keyed}
use Rattle.server_state.specs.States.{DeskState, JobsSteps, id_at}

-- ---- the runner

-- A runner holds each job under its name, from its start until it returns the job's end. A refused
-- start, a look, and a take that returns none change no job. A report accounts for the credit.
pub record RunsJobs {R : Type 0} (m : JobsSteps R) (at : R → JobId → Option AdmittedJob)
    (ends : JobId → AdmittedJob → Result Report ℕ → Type 0) (refuses : ℕ → Type 0) : Type 0 where
  pub started : (r : R) (id : JobId) (job : AdmittedJob) (done : Unit {0}) (s : R)
      → m.starts r id job (Ok done) s
      → (at s id ≡ Some job) × ((other : JobId) → other ≢ id → at s other ≡ at r other)
  pub refused : (r : R) (id : JobId) (job : AdmittedJob) (code : ℕ) (s : R)
      → m.starts r id job (Err code) s
      → refuses code × ((other : JobId) → at s other ≡ at r other)
  pub looked : (r : R) (id : JobId) (seen : Progress) (s : R) → m.looks r id seen s
      → (other : JobId) → at s other ≡ at r other
  pub taken : (r : R) (id : JobId) (outcome : Result Report ℕ) (s : R)
      → m.takes r (Some (id, outcome)) s
      → (job : AdmittedJob) × (at r id ≡ Some job) × ends id job outcome
      × ((other : JobId) → other ≢ id → at s other ≡ at r other)
  pub none : (r s : R) → m.takes r None s → (other : JobId) → at s other ≡ at r other
  pub whole : (id : JobId) (job : AdmittedJob) (report : Report) → ends id job (Ok report)
      → report.spent + report.returned ≡ job.credit

-- ---- submits

-- the query of an event
abbrev pub event_query : ServerEvent → Option Query
event_query (was_asked connection access query frame started) = Some query
event_query (has_ended id outcome) = None

-- a request, with a key or without
abbrev pub with_key : Option (List ℕ) → Asked → Query
with_key None asked = plain (Ok asked)
with_key (Some key) asked = keyed (Some key) (Ok asked)

-- a request for a job, as its client asks it
abbrev pub submit_of : List ℕ → List ProgramBytes → ℕ → List ℕ → Asked
submit_of name programs credit buffer = submit name (record {
  programs = map program_asked programs;
  credit = credit;
  buffer = buffer;
})

-- The event asks for a job, with a key or without. Its programs, credit and buffer are admitted as
-- this one, and it is sent this number.
pub record IsSubmit (e : ServerEvent) (number : ℕ) (job : AdmittedJob) : Type 0 where
  pub key : Option (List ℕ)
  pub name : List ℕ
  pub programs : List ProgramBytes
  pub credit : ℕ
  pub buffer : List ℕ
  pub asks : event_query e ≡ Some (with_key key (submit_of name programs credit buffer))
  pub admitted : IsAdmittedFrom programs credit buffer job
  pub sent : frame_of_event e ≡ submit_frame number

-- the query is one for a job
abbrev pub RequestsJob : Result Asked ℕ → Type 0
RequestsJob (Ok (submit name order)) = Unit {0}
RequestsJob other = ⊥

abbrev pub QueriesJob : Option Query → Type 0
QueriesJob (Some (plain asked)) = RequestsJob asked
QueriesJob (Some (keyed key asked)) = RequestsJob asked
QueriesJob other = ⊥

-- the refusal of a submit: the job's own, 73 for what is no key, or 74 for another tenant's name
abbrev pub IsSubmitRefusal : List ℕ → Type 0
IsSubmitRefusal frame =
    ((fault : SubmitFault) × (frame ≡ frame_or_refusal (submit_refused fault)))
    ⊎ (frame ≡ refusal_frame 73) ⊎ (frame ≡ refusal_frame 74)

-- the event asks for no job, or is sent the refusal of its job
abbrev pub TakesNoJob : ServerEvent → Type 0
TakesNoJob e = (QueriesJob (event_query e) → ⊥) ⊎ IsSubmitRefusal (frame_of_event e)

-- none of the events has this key
abbrev pub NoneHas : List ℕ → List ServerEvent → Type 0
NoneHas key [] = Unit {0}
NoneHas key (e ∷ events) = (event_key e ≢ Some key) × NoneHas key events

-- no keyed job had this key at first, and no event since
abbrev pub IsNewKey : List KeyedJob → List ServerEvent → Option (List ℕ) → Type 0
IsNewKey keys before None = Unit {0}
IsNewKey keys before (Some key) = (job_among keys key ≡ None) × NoneHas key before

-- the event asks for a job, without a key or by a new one
abbrev pub IsNewSubmit : List KeyedJob → List ServerEvent → ServerEvent → Type 0
IsNewSubmit keys before e = QueriesJob (event_query e) × IsNewKey keys before (event_key e)

-- The event is a submit by a key that is remembered, and is sent the number of that key's job.
pub record SendsAgain (keys : List KeyedJob) (before : List ServerEvent) (e : ServerEvent) :
    Type 0 where
  pub key : List ℕ
  pub has : event_key e ≡ Some key
  pub keyed_jobs : List KeyedJob
  pub are : AreKeyed keys before keyed_jobs
  pub number : ℕ
  pub known : job_among (latest keyed_jobs) key ≡ Some number
  pub sent : frame_of_event e ≡ submit_frame number

-- ---- jobs

-- What is known of a job: the job itself, or what it had come to when the history began.
pub data KnownJob : Type 0 where
  Itself : AdmittedJob → KnownJob
  Over : Result Report ℕ → KnownJob

-- The jobs that are known behind a history, in order: first those of the desk that it began with,
-- and behind them those that it took. Each submit that takes a job is sent the next number.
pub data AreKnown (keys : List KeyedJob) (first : List KnownJob) :
    List ServerEvent → List KnownJob → Type 0 where
  none_yet : AreKnown keys first [] first
  one_more : (events : List ServerEvent) (known : List KnownJob) (e : ServerEvent)
      (job : AdmittedJob)
      → AreKnown keys first events known → IsSubmit e (length known + 1) job
      → AreKnown keys first (events ++ e ∷ []) (known ++ Itself job ∷ [])
  no_more : (events : List ServerEvent) (known : List KnownJob) (e : ServerEvent)
      → AreKnown keys first events known → TakesNoJob e
      → AreKnown keys first (events ++ e ∷ []) known
  one_again : (events : List ServerEvent) (known : List KnownJob) (e : ServerEvent)
      → AreKnown keys first events known → SendsAgain keys events e
      → AreKnown keys first (events ++ e ∷ []) known

-- the job of a number
abbrev pub known_at : List KnownJob → ℕ → Option KnownJob
known_at known number = if nat_eq number 0 then None else slice_get known (number - 1)

abbrev pub over_standing : Result Report ℕ → JobStanding
over_standing (Ok report) = Reported report
over_standing (Err code) = Failed code

-- The job is held under its number: it waits for its start, or the runner has it. The runner has no
-- other one under this number.
pub record IsHeld {R : Type 0} (at : R → ℕ → Option AdmittedJob)
    (waiting : List (JobId × AdmittedJob)) (r : R) (number : ℕ) (job : AdmittedJob) : Type 0 where
  pub there : ((i : ℕ) × (slice_get waiting i ≡ Some (id_at 0 number, job)))
      ⊎ (at r number ≡ Some job)
  pub only : (other : AdmittedJob) → at r number ≡ Some other → other ≡ job

-- What is known at first of a desk's job of this number: it is open, and held, or it is over.
abbrev pub IsKnownAs : (ℕ → AdmittedJob → Type 0) → ℕ → JobEntry → KnownJob → Type 0
IsKnownAs held number entry (Itself job) =
    (entry.standing ≡ Open) × (entry.credit ≡ job.credit) × held number job
IsKnownAs held number entry (Over outcome) = entry.standing ≡ over_standing outcome

-- These are known of the jobs of a desk, in order, and each job that waits is one of them.
pub record AreKnownAtFirst {R : Type 0} (at : R → ℕ → Option AdmittedJob) (desk : DeskState)
    (waiting : List (JobId × AdmittedJob)) (r : R) (known : List KnownJob) : Type 0 where
  pub count : length known ≡ length desk.ledger.jobs
  pub each : (i : ℕ) (entry : JobEntry) (job : KnownJob)
      → slice_get desk.ledger.jobs i ≡ Some entry → slice_get known i ≡ Some job
      → IsKnownAs (IsHeld at waiting r) (i + 1) entry job
  pub waits : (i : ℕ) (job : JobId × AdmittedJob) → slice_get waiting i ≡ Some job
      → (job.0.desk ≡ 0) × (known_at known job.0.number ≡ Some (Itself job.1))

-- Each open job of the desk is the one that is known under its number, and it is held.
pub record HoldsOpenJobs {R : Type 0} (at : R → ℕ → Option AdmittedJob) (desk : DeskState)
    (waiting : List (JobId × AdmittedJob)) (r : R) (known : List KnownJob) : Type 0 where
  pub each : (number : ℕ) (entry : JobEntry) → job_at desk.ledger.jobs number ≡ Some entry
      → entry.standing ≡ Open
      → (job : AdmittedJob) × (known_at known number ≡ Some (Itself job))
      × (entry.credit ≡ job.credit) × IsHeld at waiting r number job

-- ---- results

-- the event is a request of the desk for the result of this number
abbrev pub AsksForResult : ℕ → ServerEvent → Type 0
AsksForResult number (was_asked connection access query frame started) =
    (query ≡ plain (Ok (result number))) × (access.desk ≡ 0)
AsksForResult number (has_ended id outcome) = ⊥

-- a report, as the JSON of a result
abbrev pub report_data : Report → Data
report_data r = result_data r.buffer.items r.returned r.spent r.tasks.items

abbrev pub outcome_told : Result Report ℕ → Data
outcome_told (Ok report) = report_data report
outcome_told (Err code) = refused code

-- Of so many jobs the one of this number may be forgotten: it is ahead of the last ones that are
-- kept, or what reports hold is bounded.
abbrev pub MayBeForgotten : KeepLimits → ℕ → ℕ → Type 0
MayBeForgotten keep number count =
    ((1 ≤ keep.jobs) × (number + keep.jobs ≤ count)) ⊎ (1 ≤ keep.bytes)

-- The result of a number, where these jobs are known: the end of the very job that has the number,
-- or a refusal with its cause. A job that was over at first is answered as it was.
pub data IsResultKnown (ends : ℕ → AdmittedJob → Result Report ℕ → Type 0) (refuses : ℕ → Type 0)
    (keep : KeepLimits) (known : List KnownJob) (number : ℕ) : Data → Type 0 where
  reported : (job : AdmittedJob) (report : Report) → known_at known number ≡ Some (Itself job)
      → ends number job (Ok report)
      → IsResultKnown ends refuses keep known number (report_data report)
  failed : (job : AdmittedJob) (code : ℕ) → known_at known number ≡ Some (Itself job)
      → (ends number job (Err code) ⊎ refuses code)
      → IsResultKnown ends refuses keep known number (refused code)
  was_over : (outcome : Result Report ℕ) → known_at known number ≡ Some (Over outcome)
      → IsResultKnown ends refuses keep known number (outcome_told outcome)
  not_over : (job : AdmittedJob) → known_at known number ≡ Some (Itself job)
      → IsResultKnown ends refuses keep known number (refused 77)
  forgotten : (job : KnownJob) → known_at known number ≡ Some job
      → MayBeForgotten keep number (length known)
      → IsResultKnown ends refuses keep known number (refused 76)
  unknown : known_at known number ≡ None
      → IsResultKnown ends refuses keep known number (refused 76)

-- The event is sent the result of the number, by what is known then.
pub record IsToldKnown (ends : ℕ → AdmittedJob → Result Report ℕ → Type 0) (refuses : ℕ → Type 0)
    (keep : KeepLimits) (keys : List KeyedJob) (first : List KnownJob) (before : List ServerEvent)
    (number : ℕ) (e : ServerEvent) : Type 0 where
  pub known : List KnownJob
  pub are : AreKnown keys first before known
  pub told : Data
  pub sent : frame_of_event e ≡ frame_or_refusal told
  pub is_result : IsResultKnown ends refuses keep known number told

-- A refusal that is sent in place of a result is one of those, with its cause. Or it is 65, for a
-- report that no frame holds.
pub record IsToldRefusal (ends : ℕ → AdmittedJob → Result Report ℕ → Type 0)
    (refuses : ℕ → Type 0) (keep : KeepLimits) (keys : List KeyedJob) (first : List KnownJob)
    (before : List ServerEvent) (number code : ℕ) : Type 0 where
  pub known : List KnownJob
  pub are : AreKnown keys first before known
  pub is_result : ((cause : ℕ) × IsResultKnown ends refuses keep known number (refused cause)
      × (cause < 2 ^ 64 → cause ≡ code)) ⊎ (code ≡ 65)

-- the bytes are the frame of some result
pub record IsResultFrame (frame : List ℕ) : Type 0 where
  pub buffer : List ℕ
  pub returned : ℕ
  pub spent : ℕ
  pub tasks : List TaskEnd
  pub is : frame ≡ framed (compact_text (result_data buffer returned spent tasks))

-- Before the event a job was asked for, and its submit was sent this number.
pub record IsSubmittedBefore (before : List ServerEvent) (number : ℕ) (job : AdmittedJob) :
    Type 0 where
  pub earlier : List ServerEvent
  pub asked : ServerEvent
  pub between : List ServerEvent
  pub is_before : before ≡ earlier ++ asked ∷ between
  pub is_submit : IsSubmit asked number job

-- The event is sent the report of this very job under this number, which adds up to the credit that
-- its submit asked for. The submit was before it, or the job was known at first.
pub record ComesFromSubmit (ends : ℕ → AdmittedJob → Result Report ℕ → Type 0)
    (first : List KnownJob) (before : List ServerEvent) (number : ℕ) (e : ServerEvent) : Type 0 where
  pub job : AdmittedJob
  pub from : IsSubmittedBefore before number job ⊎ (known_at first number ≡ Some (Itself job))
  pub report : Report
  pub ended : ends number job (Ok report)
  pub adds_up : report.spent + report.returned ≡ job.credit
  pub sent : frame_of_event e ≡ frame_or_refusal (report_data report)

-- The job was over when the history began, and the event is sent its report.
pub record WasReported (first : List KnownJob) (number : ℕ) (e : ServerEvent) : Type 0 where
  pub report : Report
  pub was : known_at first number ≡ Some (Over (Ok report))
  pub sent : frame_of_event e ≡ frame_or_refusal (report_data report)

-- Both events ask for one result, the second later. Once the job is over, what is sent of it stays
-- the same until it is forgotten.
abbrev pub StaysSent : ServerEvent → ServerEvent → Type 0
StaysSent e f = (frame_of_event e ≡ refusal_frame 76) ⊎ (frame_of_event e ≡ refusal_frame 77)
    ⊎ (frame_of_event f ≡ frame_of_event e) ⊎ (frame_of_event f ≡ refusal_frame 76)
