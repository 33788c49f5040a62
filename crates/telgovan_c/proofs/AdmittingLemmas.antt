-- A job of the pieces is admitted where the job of the programs that they are is.
use Rattle.std.proofs.Common.{◌≡◌, ℕ, List, length, IfOk, IfErr, Result, Ok, Err, subst, sym}
use Rattle.job_core.specs.declared.admission.ProgramBytes.{ProgramBytes}
use Rattle.telgovan_c.specs.declared.admitting.CutJob.{CutJob}
use Rattle.telgovan_c.specs.declared.jobs.CodePiece.{CodePiece}
use Rattle.telgovan_c.specs.declared.jobs.JobReport.{JobReport}
use Rattle.telgovan_c.specs.Jobs.{AreCut}
use Rattle.telgovan_c.specs.Admitting.{IsAdmittedOf, IsCutJob, IsJobRefused, IsRefusedOf, of_programs}

pub admitted_cut : (code : List ℕ) (pieces : List CodePiece) (credit : ℕ) (buffer : List ℕ) (programs : List ProgramBytes) (result : Result CutJob JobReport) →
    length programs ≡ length pieces → AreCut code pieces programs → IfOk result (λ found. IsAdmittedOf programs credit buffer found.programs.items found.job) →
    IfOk result (λ found. IsCutJob code pieces credit buffer found.programs.items found.job)
admitted_cut code pieces credit buffer programs (Ok found) many cut admitted =
    subst (λ (ps : List ProgramBytes). IsCutJob code pieces credit buffer ps found.job) (sym admitted.same) (record { many = many; cut = cut; admitted = admitted.admitted })
admitted_cut code pieces credit buffer programs (Err told) many cut admitted = tt

pub refused_cut : (code : List ℕ) (pieces : List CodePiece) (credit : ℕ) (buffer : List ℕ) (programs : List ProgramBytes) (result : Result CutJob JobReport) →
    length programs ≡ length pieces → AreCut code pieces programs → IfErr result (λ told. IsRefusedOf programs credit buffer told) →
    IfErr result (λ told. IsJobRefused code pieces credit buffer told)
refused_cut code pieces credit buffer programs (Ok found) many cut refused = tt
refused_cut code pieces credit buffer programs (Err told) many cut refused = of_programs programs many cut refused
