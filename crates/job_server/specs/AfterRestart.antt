-- What a server tells that goes on from a journal: of jobs that the journal has, and of later ones.
use Rattle.std.specs.Prelude.{◌≡◌, ◌+◌, ◌-◌, ℕ, List, [], ◌∷◌, ◌++◌, length, slice_get, nat_eq, if◌then◌else◌, Option, Some, None, Result, Ok, Err}
use Rattle.serde_json.specs.Data.{Data}
use Rattle.credit_book.specs.declared.book.Report.{Report}
use Rattle.job_core.specs.Admitted.{AdmittedJob}
use Rattle.accounts.specs.declared.jobs.JobEntry.{JobEntry}
use Rattle.accounts.specs.declared.jobs.JobStanding.{JobStanding}
use Rattle.accounts.specs.declared.jobs.JobStanding.TheVariants.{Open, Reported, Failed}
use Rattle.accounts.specs.declared.keep_limits.KeepLimits.{KeepLimits}
use Rattle.streams.specs.Answering.{refused}
use Rattle.shared_desk.specs.Histories.{HistoryEntry, Replays, by_any_passage}
use Rattle.desk_journal.specs.DeskSteps.{DeskState}
use Rattle.desk_journal.specs.OpenJobs.{ComesFromChange, open_job_at}
use Rattle.desk_journal.specs.declared.journaled_desk.OpenJob.{OpenJob}
use Rattle.job_pools.specs.Bounded.{starts_within}
use Rattle.job_pools.specs.Endings.{IsRun}
use Rattle.job_pools.specs.Holds.{StartsBy}
use Rattle.job_pools.specs.Started.{pooled_at, pooled_count}
use Rattle.job_server.specs.AtOnce.{Pool}
use Rattle.job_server.specs.EndToEnd.{FailsBy, HasReply, IsSubmit, MayBeForgotten, TakesNoJob, report_data}
use Rattle.job_server.specs.Recorded.{IsRestarted, RecordedHosted, recorded_answers}
use Rattle.job_server.specs.declared.bounds.Bounds.{Bounds}

-- ---- jobs

-- What a server knows of a job: the job itself, or what it had come to ahead of the restart.
pub data KnownJob : Type 0 where
  Itself : AdmittedJob → KnownJob
  Over : Result Report ℕ → KnownJob

abbrev pub over_standing : Result Report ℕ → JobStanding
over_standing (Ok report) = Reported report
over_standing (Err code) = Failed code

-- what is known of a recovered desk's job of this number: it is open, and held, or it is over
abbrev pub IsRecoveredAs : List OpenJob → ℕ → JobStanding → KnownJob → Type 0
IsRecoveredAs held number standing (Itself job) =
    (standing ≡ Open) × (open_job_at number held ≡ Some job)
IsRecoveredAs held number standing (Over outcome) = standing ≡ over_standing outcome

-- what is known of each job of a recovered desk, in order
pub record AreRecovered (state : DeskState) (known : List KnownJob) : Type 0 where
  pub count : length known ≡ length state.desk.jobs
  pub each : (i : ℕ) (entry : JobEntry) (job : KnownJob)
      → slice_get state.desk.jobs i ≡ Some entry → slice_get known i ≡ Some job
      → IsRecoveredAs state.held (i + 1) entry.standing job

-- The jobs that are known behind a history, in order: first those of the recovered desk, and behind
-- them those that the history took. Each submit is told the next number.
pub data AreKnown (first : List KnownJob) : List HistoryEntry → List KnownJob → Type 0 where
  none_yet : AreKnown first [] first
  one_more : (history : List HistoryEntry) (known : List KnownJob) (e : HistoryEntry)
      (job : AdmittedJob)
      → AreKnown first history known → IsSubmit e (length known + 1) job
      → AreKnown first (history ++ e ∷ []) (known ++ Itself job ∷ [])
  no_more : (history : List HistoryEntry) (known : List KnownJob) (e : HistoryEntry)
      → AreKnown first history known
      → TakesNoJob e → AreKnown first (history ++ e ∷ []) known

-- the job of a number
abbrev pub known_at : List KnownJob → ℕ → Option KnownJob
known_at known number = if nat_eq number 0 then None else slice_get known (number - 1)

-- ---- results

abbrev pub outcome_told : Result Report ℕ → Data
outcome_told (Ok report) = report_data report
outcome_told (Err code) = refused code

-- The result of a number, where these jobs are known, at a server that keeps so many reports: the
-- report of a run of the very job that has the number, or a refusal with its cause. A job that was
-- over ahead of the restart is told as the journal has it.
pub data IsResultKnown (keep : KeepLimits) (known : List KnownJob) (number : ℕ) :
    Data → Type 0 where
  reported : (job : AdmittedJob) (report : Report) → known_at known number ≡ Some (Itself job)
      → IsRun number job report → IsResultKnown keep known number (report_data report)
  failed : (job : AdmittedJob) (code : ℕ) → known_at known number ≡ Some (Itself job)
      → FailsBy code → IsResultKnown keep known number (refused code)
  was_over : (outcome : Result Report ℕ) → known_at known number ≡ Some (Over outcome)
      → IsResultKnown keep known number (outcome_told outcome)
  not_over : (job : AdmittedJob) → known_at known number ≡ Some (Itself job)
      → IsResultKnown keep known number (refused 77)
  forgotten : (job : KnownJob) → known_at known number ≡ Some job
      → MayBeForgotten keep number (length known) → IsResultKnown keep known number (refused 76)
  unknown : known_at known number ≡ None → IsResultKnown keep known number (refused 76)

-- The entry is told the result of the number, by what is known then.
pub record IsToldKnown (keep : KeepLimits) (first : List KnownJob) (before : List HistoryEntry)
    (number : ℕ) (e : HistoryEntry) : Type 0 where
  pub known : List KnownJob
  pub taken : AreKnown first before known
  pub told : Data
  pub tells : HasReply e told
  pub is_result : IsResultKnown keep known number told

-- One of these changes took a job under this number. The entry is told the report of a run of this
-- very job.
pub record ComesFromJournal (changes : List (List ℕ)) (number : ℕ) (e : HistoryEntry) :
    Type 0 where
  pub job : AdmittedJob
  pub from : ComesFromChange changes number job
  pub report : Report
  pub run : IsRun number job report
  pub tells : HasReply e (report_data report)

-- ---- histories

-- a history that a server within these bounds may have, which goes on from a recovered desk
pub record IsRecoveredHistory {Q : Type 0} (taken : Q → List ℕ) (failed : Q → Type 0)
    (state : DeskState) (bounds : Bounds) (history : List HistoryEntry) : Type 0 where
  pub first : Pool
  pub begun : RecordedHosted Q
  pub restarted :
      IsRestarted (starts_within pooled_count (StartsBy pooled_at pooled_count)) taken failed state
      (record { runner = first; limit = bounds.open_jobs }) bounds.keep begun
  pub end : RecordedHosted Q
  pub legal : Replays (by_any_passage (recorded_answers taken failed)) (λ s. s ≡ begun) history end
