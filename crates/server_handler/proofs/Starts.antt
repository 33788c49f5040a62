-- What is told of a start, and the desk after it.
use Rattle.std.proofs.Common.{◌≡◌, ◌+◌, ◌-◌, ℕ, List, [], ◌∷◌, length, length-append, sym, ap, subst, ◌∙◌, Option, Some, None, Result, Ok, Err, OnErr, IfOk}
use Rattle.std.proofs.lemmas.List.{length-set}
use Rattle.job_core.specs.Admitted.{AdmittedJob}
use Rattle.job_core.specs.declared.admission.AdmitFault.{AdmitFault}
use Rattle.accounts.specs.declared.fault.SubmitFault.{SubmitFault}
use Rattle.accounts.specs.Jobs.{settled}
use Rattle.accounts.specs.Ledgers.{Ledger, Finishes, Takes}
use Rattle.credit_book.specs.declared.book.Report.{Report}
use Rattle.streams.specs.Answering.{Settles}
use Rattle.streams.specs.Refusing.{TellsStart, start_refused}
use Rattle.streams.specs.declared.submit_refusal.SubmitRefusal.{SubmitRefusal}
use Rattle.streams.specs.declared.submit_refusal.SubmitRefusal.TheVariants.{NotTaken, NotStarted}

-- ---- how many jobs there are

-- one more behind a job that is taken
pub longer : (old new : Ledger) (name : List ℕ) (credit : ℕ) → Takes old name credit new → length new.jobs ≡ length old.jobs + 1
longer old new name credit takes = ap length takes.jobs.jobs ∙ length-append old.jobs (takes.entry ∷ [])

-- as many behind one that ends
pub as_many : (old new : Ledger) (number : ℕ) (outcome : Result Report ℕ) → Finishes old number outcome new → length new.jobs ≡ length old.jobs
as_many old new number outcome over = ap length over.jobs.jobs ∙ length-set old.jobs (number - 1) (record over.entry { standing = settled over.entry.credit outcome })

-- and behind a start
pub start_count : (old new : Ledger) (number : ℕ) (refusal : Option SubmitRefusal) → TellsStart old number refusal new → length new.jobs ≡ length old.jobs
start_count old new number refusal tells = by tells.outcome tells.settles
  where
    by : (outcome : Result (Unit {0}) ℕ) → Settles old number outcome new → length new.jobs ≡ length old.jobs
    by (Ok started) settles = ap (λ (l : Ledger). length l.jobs) settles
    by (Err code) over = as_many old new number (Err code) over

-- ---- what is told of a start

pub refused_ends : (old new : Ledger) (number job code : ℕ) → TellsStart old number (Some (NotStarted job code)) new → Finishes old job (Err code) new
refused_ends old new number job code tells = by tells.outcome tells.tells tells.settles
  where
    by : (outcome : Result (Unit {0}) ℕ) → Some (NotStarted job code) ≡ start_refused number outcome → Settles old number outcome new → Finishes old job (Err code) new
    by (Ok started) is settles = absurd cc
    by (Err c) is settles =
        let same_job : job ≡ number = cc in
        let same_code : code ≡ c = cc in
        subst (λ (n : ℕ). Finishes old n (Err code) new) (sym same_job) (subst (λ (k : ℕ). Finishes old number (Err k) new) (sym same_code) settles)

pub started_same : (old new : Ledger) (number : ℕ) → TellsStart old number None new → new ≡ old
started_same old new number tells = by tells.outcome tells.tells tells.settles
  where
    by : (outcome : Result (Unit {0}) ℕ) → None ≡ start_refused number outcome → Settles old number outcome new → new ≡ old
    by (Ok started) is settles = settles
    by (Err c) is settles = absurd cc

pub taken_same : (old new : Ledger) (number code : ℕ) → TellsStart old number (Some (NotTaken code)) new → new ≡ old
taken_same old new number code tells = by tells.outcome tells.tells tells.settles
  where
    by : (outcome : Result (Unit {0}) ℕ) → Some (NotTaken code) ≡ start_refused number outcome → Settles old number outcome new → new ≡ old
    by (Ok started) is settles = settles
    by (Err c) is settles = absurd cc

-- no job is taken that wasn't admitted
pub none_taken : (r : Result (ℕ × AdmittedJob) SubmitFault) (fault : AdmitFault) (old new : Ledger) → IfOk r (λ t. Err fault ≡ Ok t.1) → OnErr r (new ≡ old) → new ≡ old
none_taken (Ok t) fault old new job same = absurd cc
none_taken (Err e) fault old new job same = same

pub none_admitted : (r : Result (ℕ × AdmittedJob) SubmitFault) (fault : AdmitFault) (P : AdmittedJob → Type 0) → IfOk r (λ t. Err fault ≡ Ok t.1) → IfOk r (λ t. P t.1)
none_admitted (Ok t) fault P job = absurd cc
none_admitted (Err e) fault P job = tt
