-- Open jobs that are held in the order of their numbers, each with the change that took it.
use Rattle.std.specs.Prelude.{◌≡◌, ◌+◌, ℕ, List, [], ◌∷◌, Vec, string_bytes}
use Rattle.std.specs.declared.alloc.Global.{Global}
use Rattle.accounts.specs.Forgetting.{IsJobOver}
use Rattle.accounts.specs.declared.jobs.JobEntry.{JobEntry}
use Rattle.accounts.specs.declared.jobs.JobStanding.TheVariants.{Open}
use Rattle.job_core.specs.Admission.{IsAdmittedFrom}
use Rattle.job_core.specs.Admitted.{AdmittedJob}
use Rattle.job_core.specs.declared.admission.ProgramBytes.{ProgramBytes}
use Rattle.desk_journal.specs.DeskChanges.{change_bytes}
use Rattle.desk_journal.specs.declared.change.DeskChange.TheVariants.{Submitted}
use Rattle.desk_journal.specs.declared.journaled_desk.OpenJob.{OpenJob}

-- the bytes are those of a change that takes a job from this
pub record IsTakingChange (name : List ℕ) (programs : List ProgramBytes) (credit : ℕ) (buffer : List ℕ)
    (source : List ℕ) : Type 0 where
  pub tenant_bytes : Vec ℕ Global
  pub program_list : Vec ProgramBytes Global
  pub buffer_bytes : Vec ℕ Global
  pub is : source ≡ change_bytes (Submitted tenant_bytes program_list credit buffer_bytes)
  pub tenant : tenant_bytes.items ≡ name
  pub programs_are : program_list.items ≡ programs
  pub buffer_is : buffer_bytes.items ≡ buffer

-- the bytes are those of a change that took this job, which is open
pub record IsTakenBy (source : List ℕ) (entry : JobEntry) (job : AdmittedJob) : Type 0 where
  pub programs : List ProgramBytes
  pub buffer : List ℕ
  pub is : IsTakingChange (string_bytes entry.tenant) programs entry.credit buffer source
  pub admitted : IsAdmittedFrom programs entry.credit buffer job
  pub opened : entry.standing ≡ Open

-- Of these jobs, of which the first has this number, those that are open are held, in order, and each
-- has the change that took it.
pub data AreHeldFrom : ℕ → List JobEntry → List OpenJob → List (Vec ℕ Global) → Type 0 where
  none_left : (number : ℕ) → AreHeldFrom number [] [] []
  one_over : (number : ℕ) (entry : JobEntry) (jobs : List JobEntry) (held : List OpenJob)
      (sources : List (Vec ℕ Global)) → IsJobOver entry
      → AreHeldFrom (number + 1) jobs held sources → AreHeldFrom number (entry ∷ jobs) held sources
  one_open : (number : ℕ) (entry : JobEntry) (jobs : List JobEntry) (open_job : OpenJob)
      (held : List OpenJob) (source : Vec ℕ Global) (sources : List (Vec ℕ Global))
      → open_job.number ≡ number → IsTakenBy source.items entry open_job.job
      → AreHeldFrom (number + 1) jobs held sources
      → AreHeldFrom number (entry ∷ jobs) (open_job ∷ held) (source ∷ sources)
