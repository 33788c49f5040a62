-- What each change makes of a desk.
use Rattle.std.specs.Prelude.{◌≡◌, ◌≢◌, ◌⊎◌, ◌<◌, ◌^◌, ℕ, List, [], ◌∷◌, ◌++◌, All, length, Result, Ok, Err}
use Rattle.std.specs.Str.{IsUtf8}
use Rattle.accounts.specs.Ledgers.{Ledger, Finishes, Forgets, GrantsMore, IsNotOpen, RefusesGrant, RefusesSubmit, Takes}
use Rattle.accounts.specs.Restoring.{AddsGone, OpensAccount, Recalls, RefusesAccount, RefusesGone, RefusesRecall}
use Rattle.accounts.specs.declared.fault.DeskFault.{DeskFault}
use Rattle.accounts.specs.declared.fault.RestoreFault.{RestoreFault}
use Rattle.accounts.specs.declared.fault.RestoreFault.TheVariants.{NoMemory}
use Rattle.accounts.specs.declared.fault.SubmitFault.{SubmitFault}
use Rattle.accounts.specs.declared.jobs.JobStanding.{JobStanding}
use Rattle.accounts.specs.declared.jobs.JobStanding.TheVariants.{Reported, Failed as FailedBy}
use Rattle.credit_book.specs.declared.book.Report.{Report}
use Rattle.job_core.specs.Admission.{IsAdmittedFrom}
use Rattle.desk_journal.specs.Changes.{report_bytes}
use Rattle.desk_journal.specs.DeskChanges.{change_bytes}
use Rattle.desk_journal.specs.declared.change.DeskChange.{DeskChange}
use Rattle.desk_journal.specs.declared.change.DeskChange.TheVariants.{Granted, Submitted, Finished, Failed, Forgotten, AccountOpened, JobsSkipped, ReportKept, FailureKept}
use Rattle.desk_journal.specs.declared.journaled_desk.OpenJob.{OpenJob}

-- a desk, and its open jobs in the order in which they were taken
pub record DeskState : Type 0 where
  pub desk : Ledger
  pub held : List OpenJob

-- the bytes are no text
abbrev pub IsNoText : List ℕ → Type 0
IsNoText bytes = IsUtf8 bytes → ⊥

-- none of the jobs has the number
abbrev pub IsNotHeld : List OpenJob → ℕ → Type 0
IsNotHeld held number = All (λ (o : OpenJob). o.number ≡ number → ⊥) held

-- the first job of the number is gone
pub record IsWithout (number : ℕ) (old new : List OpenJob) : Type 0 where
  pub before : List OpenJob
  pub gone : OpenJob
  pub after : List OpenJob
  pub was : old ≡ before ++ gone ∷ after
  pub numbered : gone.number ≡ number
  pub now : new ≡ before ++ after

-- an open job is over, and isn't held any more
abbrev pub EndsJob : ℕ → Result Report ℕ → DeskState → DeskState → Type 0
EndsJob number outcome old new =
    Finishes old.desk number outcome new.desk × IsWithout number old.held new.held

-- a report of the same bytes, whose sums are within their widths
pub record IsCopyOf (report copy : Report) : Type 0 where
  pub same : report_bytes copy ≡ report_bytes report
  pub spent : copy.spent < 2 ^ 32
  pub returned : copy.returned < 2 ^ 32

-- a job of this credit that is over is there again, and the same jobs are held
pub record PutsBack (name : List ℕ) (credit : ℕ) (standing : JobStanding) (old new : DeskState) :
    Type 0 where
  pub recalls : Recalls old.desk name credit standing new.desk
  pub narrow : credit < 2 ^ 32
  pub held : new.held ≡ old.held

-- what a change makes of a state
abbrev pub Makes : DeskChange → DeskState → DeskState → Type 0
Makes (Granted tenant amount) old new =
    GrantsMore old.desk tenant.items amount new.desk × (new.held ≡ old.held)
Makes (Submitted tenant programs credit buffer) old new =
    Takes old.desk tenant.items credit new.desk
    × ((taken : OpenJob) × IsAdmittedFrom programs.items credit buffer.items taken.job
    × (taken.number ≡ length new.desk.jobs) × (new.held ≡ old.held ++ taken ∷ []))
Makes (Finished number report) old new =
    (same : Report) × (report_bytes same ≡ report_bytes report) × EndsJob number (Ok same) old new
Makes (Failed number code) old new = EndsJob number (Err code) old new
Makes (Forgotten ahead) old new = Forgets old.desk ahead new.desk × (new.held ≡ old.held)
Makes (AccountOpened tenant granted spent) old new =
    OpensAccount old.desk tenant.items granted spent new.desk × (new.held ≡ old.held)
Makes (JobsSkipped count) old new =
    AddsGone old.desk count new.desk × (count < 2 ^ 64) × (new.held ≡ old.held)
Makes (ReportKept tenant credit report) old new =
    (copy : Report) × IsCopyOf report copy × PutsBack tenant.items credit (Reported copy) old new
Makes (FailureKept tenant credit code) old new =
    PutsBack tenant.items credit (FailedBy code) old new

-- no open job of the number is held, or none is open
abbrev pub RefusesEnd : ℕ → DeskState → Type 0
RefusesEnd number old = IsNotHeld old.held number ⊎ IsNotOpen old.desk number

-- a job of this standing isn't put back, for another reason than want of memory
abbrev pub RefusesPutBack : List ℕ → JobStanding → DeskState → Type 0
RefusesPutBack name standing old =
    IsNoText name ⊎ ((fault : RestoreFault) × (fault ≢ NoMemory)
    × RefusesRecall old.desk name standing fault)

-- in this state the change isn't one that may be made
abbrev pub RefusesChange : DeskChange → DeskState → Type 0
RefusesChange (Granted tenant amount) old =
    IsNoText tenant.items ⊎ ((fault : DeskFault) × RefusesGrant old.desk tenant.items amount fault)
RefusesChange (Submitted tenant programs credit buffer) old =
    IsNoText tenant.items ⊎ ((fault : SubmitFault)
    × RefusesSubmit old.desk tenant.items programs.items credit buffer.items fault)
RefusesChange (Finished number report) old = RefusesEnd number old
RefusesChange (Failed number code) old = RefusesEnd number old
RefusesChange (Forgotten ahead) old = ⊥
RefusesChange (AccountOpened tenant granted spent) old =
    IsNoText tenant.items ⊎ ((fault : RestoreFault) × (fault ≢ NoMemory)
    × RefusesAccount old.desk tenant.items granted spent fault)
RefusesChange (JobsSkipped count) old =
    (fault : RestoreFault) × RefusesGone old.desk count fault
RefusesChange (ReportKept tenant credit report) old =
    (copy : Report) × IsCopyOf report copy × RefusesPutBack tenant.items (Reported copy) old
RefusesChange (FailureKept tenant credit code) old =
    RefusesPutBack tenant.items (FailedBy code) old

-- the same, of a change with these bytes
abbrev pub MakesBytes : DeskState → List ℕ → DeskState → Type 0
MakesBytes old bytes new = (change : DeskChange) × (change_bytes change ≡ bytes) × Makes change old new

abbrev pub RefusesChangeBytes : DeskState → List ℕ → Type 0
RefusesChangeBytes old bytes = (change : DeskChange) × (change_bytes change ≡ bytes) × RefusesChange change old

-- a new desk, with no job
abbrev pub IsNewDesk : DeskState → Type 0
IsNewDesk state = (state.desk ≡ record { grants = []; past = []; jobs = [] }) × (state.held ≡ [])
