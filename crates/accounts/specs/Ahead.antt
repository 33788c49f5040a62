-- Jobs that are admitted ahead of being taken.
use Rattle.std.specs.Prelude.{ℕ, List, Result, MatchResult}
use Rattle.job_core.specs.declared.admission.ProgramBytes.{ProgramBytes}
use Rattle.job_core.specs.declared.admission.AdmitFault.{AdmitFault}
use Rattle.job_core.specs.Admitted.{AdmittedJob}
use Rattle.job_core.specs.Admission.{IsAdmittedFrom, RefusesJob}

-- what the admission of a job came to
abbrev pub IsAdmissionOf : List ProgramBytes → ℕ → List ℕ → Result AdmittedJob AdmitFault → Type 0
IsAdmissionOf programs credit buffer admitted =
    MatchResult admitted (λ job. IsAdmittedFrom programs credit buffer job)
    (λ fault. RefusesJob programs credit buffer fault)
