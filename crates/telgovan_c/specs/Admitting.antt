-- When a job of a caller's pieces of code is admitted, and when it is refused.
use Rattle.std.specs.Prelude.{◌≡◌, ℕ, List, length}
use Rattle.job_core.specs.declared.admission.ProgramBytes.{ProgramBytes}
use Rattle.job_core.specs.declared.admission.AdmitFault.{AdmitFault}
use Rattle.job_core.specs.declared.admission.AdmitFault.TheVariants.{NoMemory}
use Rattle.job_core.specs.Admission.{IsAdmittedFrom, RefusesJob}
use Rattle.job_core.specs.Admitted.{AdmittedJob}
use Rattle.telgovan_c.specs.declared.jobs.JobReport.{JobReport}
use Rattle.telgovan_c.specs.declared.jobs.CodePiece.{CodePiece}
use Rattle.telgovan_c.specs.Jobs.{AreCut, IsFirstMissing, IsWithinNumbers, RefusesNumbers, missing_report, refused_report}

-- the job is admitted from the programs, and these are beside it
pub record IsAdmittedOf (programs : List ProgramBytes) (credit : ℕ) (buffer : List ℕ)
    (beside : List ProgramBytes) (job : AdmittedJob) : Type 0 where
  pub same : beside ≡ programs
  pub admitted : IsAdmittedFrom programs credit buffer job

-- the programs are refused, and this is told
pub record IsRefusedOf (programs : List ProgramBytes) (credit : ℕ) (buffer : List ℕ)
    (told : JobReport) : Type 0 where
  pub fault : AdmitFault
  pub refused : RefusesJob programs credit buffer fault
  pub tells : told ≡ refused_report fault

-- the programs are those of all pieces, and the job is admitted from them
pub record IsCutJob (code : List ℕ) (pieces : List CodePiece) (credit : ℕ) (buffer : List ℕ)
    (programs : List ProgramBytes) (job : AdmittedJob) : Type 0 where
  pub many : length programs ≡ length pieces
  pub cut : AreCut code pieces programs
  pub admitted : IsAdmittedFrom programs credit buffer job

-- The job is refused: its programs, or its numbers, or a piece that the code doesn't have. Or there
-- is no memory.
pub data IsJobRefused (code : List ℕ) (pieces : List CodePiece) (credit : ℕ) (buffer : List ℕ)
    (told : JobReport) : Type 0 where
  of_programs : (programs : List ProgramBytes) → length programs ≡ length pieces
      → AreCut code pieces programs → IsRefusedOf programs credit buffer told
      → IsJobRefused code pieces credit buffer told
  over_limits : (fault : AdmitFault) → RefusesNumbers (length pieces) credit (length buffer) fault
      → told ≡ refused_report fault → IsJobRefused code pieces credit buffer told
  missing : IsWithinNumbers (length pieces) credit (length buffer) → (place : ℕ)
      → IsFirstMissing code pieces place → told ≡ missing_report place
      → IsJobRefused code pieces credit buffer told
  no_memory : IsWithinNumbers (length pieces) credit (length buffer)
      → told ≡ refused_report NoMemory → IsJobRefused code pieces credit buffer told
