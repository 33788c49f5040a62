-- Open jobs by their numbers, and the records that they come from.
use Rattle.std.specs.Prelude.{◌≡◌, ◌+◌, ℕ, List, [], ◌∷◌, ◌++◌, length, nat_eq, if◌then◌else◌, Option, Some, None, Vec}
use Rattle.std.specs.declared.alloc.Global.{Global}
use Rattle.job_core.specs.Admission.{IsAdmittedFrom}
use Rattle.job_core.specs.Admitted.{AdmittedJob}
use Rattle.job_core.specs.declared.admission.ProgramBytes.{ProgramBytes}
use Rattle.recovery.specs.Histories.{IsAfter}
use Rattle.desk_journal.specs.DeskChanges.{change_bytes}
use Rattle.desk_journal.specs.DeskSteps.{DeskState, IsNewDesk, MakesBytes}
use Rattle.desk_journal.specs.declared.change.DeskChange.TheVariants.{Submitted}
use Rattle.desk_journal.specs.declared.journaled_desk.OpenJob.{OpenJob}

-- the first job of a number
abbrev pub open_job_at : ℕ → List OpenJob → Option AdmittedJob
open_job_at number [] = None
open_job_at number (o ∷ held) = if nat_eq o.number number then Some o.job else open_job_at number held

-- One of these changes took the job: its programs, credit and buffer are admitted as this one. The
-- changes ahead of it had led to a desk whose last job had the number before.
pub record ComesFromChange (changes : List (List ℕ)) (number : ℕ) (job : AdmittedJob) : Type 0 where
  pub ahead : List (List ℕ)
  pub tenant : Vec ℕ Global
  pub programs : Vec ProgramBytes Global
  pub credit : ℕ
  pub buffer : Vec ℕ Global
  pub behind : List (List ℕ)
  pub are : changes ≡ ahead ++ change_bytes (Submitted tenant programs credit buffer) ∷ behind
  pub admitted : IsAdmittedFrom programs.items credit buffer.items job
  pub before : DeskState
  pub led : IsAfter IsNewDesk MakesBytes ahead before
  pub next : number ≡ length before.desk.jobs + 1
