-- Desks of which nobody can tell which is which, now and after any changes.
use Rattle.std.specs.Prelude.{◌≡◌, ℕ, List, string_bytes}
use Rattle.std.specs.List.{AllZip}
use Rattle.accounts.specs.Ledgers.{granted_to, past_of}
use Rattle.accounts.specs.declared.jobs.JobEntry.{JobEntry}
use Rattle.accounts.specs.declared.jobs.JobStanding.{JobStanding}
use Rattle.accounts.specs.declared.jobs.JobStanding.TheVariants.{Open, Reported, Failed}
use Rattle.credit_book.specs.declared.book.Report.{Report}
use Rattle.job_core.specs.Admitted.{AdmittedJob}
use Rattle.verifier.specs.Checked.{Checked}
use Rattle.desk_journal.specs.Changes.{report_bytes}
use Rattle.desk_journal.specs.DeskSteps.{DeskState}
use Rattle.desk_journal.specs.declared.journaled_desk.OpenJob.{OpenJob}

-- reports of the same sums and bytes
pub record AreReportsAlike (first second : Report) : Type 0 where
  pub spent : first.spent ≡ second.spent
  pub returned : first.returned ≡ second.returned
  pub bytes : report_bytes first ≡ report_bytes second

-- two jobs stand alike
abbrev pub StandAlike : JobStanding → JobStanding → Type 0
StandAlike Open Open = Unit {0}
StandAlike Open (Reported report) = ⊥
StandAlike Open (Failed code) = ⊥
StandAlike (Reported report) Open = ⊥
StandAlike (Reported first) (Reported second) = AreReportsAlike first second
StandAlike (Reported report) (Failed code) = ⊥
StandAlike (Failed code) Open = ⊥
StandAlike (Failed code) (Reported report) = ⊥
StandAlike (Failed first) (Failed second) = first ≡ second

-- jobs of the same tenant and credit that stand alike
pub record AreEntriesAlike (first second : JobEntry) : Type 0 where
  pub tenant : string_bytes first.tenant ≡ string_bytes second.tenant
  pub credit : first.credit ≡ second.credit
  pub standing : StandAlike first.standing second.standing

-- the same code, with the same need and helpers
pub record AreProgramsAlike (first second : Checked) : Type 0 where
  pub need : first.need ≡ second.need
  pub helpers : first.helpers ≡ second.helpers
  pub code : first.code ≡ second.code

-- jobs of the same programs, credit and buffer
pub record AreJobsAlike (first second : AdmittedJob) : Type 0 where
  pub programs : AllZip AreProgramsAlike first.programs second.programs
  pub credit : first.credit ≡ second.credit
  pub buffer : first.buffer ≡ second.buffer

-- open jobs that are alike, of the same number
pub record AreOpenAlike (first second : OpenJob) : Type 0 where
  pub number : first.number ≡ second.number
  pub job : AreJobsAlike first.job second.job

-- Each tenant has the same grants and the same past, and the jobs are alike place by place, also
-- those that are held.
pub record AreDesksAlike (first second : DeskState) : Type 0 where
  pub grants : (q : List ℕ) → granted_to first.desk q ≡ granted_to second.desk q
  pub past : (q : List ℕ) → past_of first.desk q ≡ past_of second.desk q
  pub jobs : AllZip AreEntriesAlike first.desk.jobs second.desk.jobs
  pub held : AllZip AreOpenAlike first.held second.held
