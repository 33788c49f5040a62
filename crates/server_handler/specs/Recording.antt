-- Answers of a desk, and the changes that they make.
use Rattle.std.specs.Prelude.{ℕ, List, [], IfSome, length, nat_lt, if◌then◌else◌, MatchResult, Option, Result}
use Rattle.accounts.specs.Ledgers.{Ledger, Finishes, Forgets, GrantsMore, Takes}
use Rattle.credit_book.specs.declared.book.Report.{Report}
use Rattle.job_core.specs.Admitted.{AdmittedJob}
use Rattle.job_core.specs.Admission.{IsAdmittedFrom, RefusesJob}
use Rattle.job_core.specs.declared.admission.AdmitFault.{AdmitFault}
use Rattle.job_core.specs.declared.admission.ProgramBytes.{ProgramBytes}
use Rattle.sessions.specs.declared.job_key.KeyedJob.{KeyedJob}
use Rattle.server_state.specs.Changing.{MakesAt, SpentNothing, last_keyed}
use Rattle.server_state.specs.declared.change.DeskChange.{DeskChange}

-- the keyed job of a desk's last one, where a desk took a job, and else none
abbrev pub keyed_taken : Option (List ℕ) → Ledger → Ledger → List KeyedJob
keyed_taken key old new =
    if nat_lt (length old.jobs) (length new.jobs) then last_keyed key new else []

-- the change is this grant, this job that was taken, this end, or this forgetting, at every ledger
abbrev pub IsGrant : ℕ → DeskChange → List ℕ → ℕ → Type 0
IsGrant place c name amount =
    (old new : Ledger) → GrantsMore old name amount new → SpentNothing old name
    → MakesAt place c old new []

abbrev pub IsTaking : ℕ → DeskChange → Option (List ℕ) → List ℕ → List ProgramBytes → ℕ → List ℕ
    → Type 0
IsTaking place c key name programs credit buffer =
    (old new : Ledger) (job : AdmittedJob) → Takes old name credit new
    → IsAdmittedFrom programs credit buffer job → MakesAt place c old new (last_keyed key new)

abbrev pub IsEndChange : ℕ → DeskChange → ℕ → Result Report ℕ → Type 0
IsEndChange place c number outcome =
    (old new : Ledger) → Finishes old number outcome new → MakesAt place c old new []

abbrev pub IsForgetting : ℕ → DeskChange → ℕ → Type 0
IsForgetting place c ahead =
    (old new : Ledger) → Forgets old ahead new → MakesAt place c old new []

-- a job that is taken with its change, or why it is not admitted
abbrev pub IsRecordedAdmission : ℕ → Option (List ℕ) → List ℕ → List ProgramBytes → ℕ → List ℕ
    → Result (AdmittedJob × Option DeskChange) AdmitFault → Type 0
IsRecordedAdmission place key name programs credit buffer admission =
    MatchResult admission
    (λ made. IsAdmittedFrom programs credit buffer made.0
    × IfSome made.1 (λ c. IsTaking place c key name programs credit buffer))
    (λ fault. RefusesJob programs credit buffer fault)
