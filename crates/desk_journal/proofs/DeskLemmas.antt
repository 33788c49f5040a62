-- Steps of a desk, and its open jobs.
use Rattle.std.proofs.Common.{◌≡◌, ◌∙◌, Vec, Global, ℕ, zero, suc, List, [], ◌∷◌, ◌++◌, take, drop, Result, Ok, Err, Some, slice_get, refl, sym, ap, subst}
use Rattle.std.specs.Prelude.{OnOk}
use Rattle.accounts.specs.Ledgers.{Ledger, RefusesSubmit}
use Rattle.accounts.specs.declared.fault.SubmitFault.{SubmitFault}
use Rattle.credit_book.specs.declared.book.Report.{Report}
use Rattle.job_core.specs.declared.admission.ProgramBytes.{ProgramBytes}
use Rattle.desk_journal.specs.Changes.{report_bytes}
use Rattle.desk_journal.specs.DeskChanges.{change_bytes}
use Rattle.accounts.specs.declared.jobs.JobStanding.TheVariants.{Reported}
use Rattle.desk_journal.specs.DeskSteps.{DeskState, EndsJob, IsCopyOf, IsWithout, Makes, MakesBytes, PutsBack, RefusesChange, RefusesChangeBytes, RefusesPutBack}
use Rattle.desk_journal.specs.HeldJobs.{IsTakingChange}
use Rattle.desk_journal.specs.declared.change.DeskChange.{DeskChange}
use Rattle.desk_journal.specs.declared.change.DeskChange.TheVariants.{Finished, ReportKept, Submitted}
use Rattle.desk_journal.specs.declared.journaled_desk.OpenJob.{OpenJob}

pub on_ok : {X E P Q : Type 0} (r : Result X E) → (P → Q) → OnOk r P → OnOk r Q
on_ok (Ok x) f p = f p
on_ok (Err e) f p = tt

-- the same refusal, of the same things by other names
pub refuses_so : (d e : Ledger) (m n : List ℕ) (programs : List ProgramBytes) (credit : ℕ) (a b : List ℕ) (fault : SubmitFault) → d ≡ e → m ≡ n → a ≡ b → RefusesSubmit d m programs credit a fault → RefusesSubmit e n programs credit b fault
refuses_so d e m n programs credit a b fault desk name buffer refused =
    subst (λ (x : Ledger). RefusesSubmit x n programs credit b fault) desk
    (subst (λ (x : List ℕ). RefusesSubmit d x programs credit b fault) name (subst (λ (x : List ℕ). RefusesSubmit d m programs credit x fault) buffer refused))

-- a list without the job at a place
pub without : (jobs : List OpenJob) (place number : ℕ) (job : OpenJob) → slice_get jobs place ≡ Some job → job.number ≡ number → IsWithout number jobs (take place jobs ++ drop (suc place) jobs)
without [] place number job at numbered = cc
without (x ∷ jobs) zero number job at numbered =
    let same : x ≡ job = cc in
    record { before = []; gone = x; after = jobs; was = refl; numbered = subst (λ (o : OpenJob). o.number ≡ number) (sym same) numbered; now = refl }
without (x ∷ jobs) (suc place) number job at numbered =
    let t = without jobs place number job at numbered in
    record { before = x ∷ t.before; gone = t.gone; after = t.after; was = ap (λ l. x ∷ l) t.was; numbered = t.numbered; now = ap (λ l. x ∷ l) t.now }

-- the end of a job with the same report
pub finished_so : (change : DeskChange) (number : ℕ) (report same : Report) (old new : DeskState) → change ≡ Finished number report → report_bytes same ≡ report_bytes report → EndsJob number (Ok same) old new → MakesBytes old (change_bytes change) new
finished_so change number report same old new is bytes ends = (change, refl, subst (λ (c : DeskChange). Makes c old new) (sym is) (same, bytes, ends))

-- a job with the same report is put back
pub copied_so : (change : DeskChange) (tenant : Vec ℕ Global) (credit : ℕ) (report : Report) (name : List ℕ) (old new : DeskState) → change ≡ ReportKept tenant credit report → name ≡ tenant.items
    → (copy : Report) × IsCopyOf report copy × PutsBack name credit (Reported copy) old new → MakesBytes old (change_bytes change) new
copied_so change tenant credit report name old new is same back =
    (change, refl, subst (λ (c : DeskChange). Makes c old new) (sym is) (back.0, back.1, subst (λ (n : List ℕ). PutsBack n credit (Reported back.0) old new) same back.2))

pub copy_refused_so : (change : DeskChange) (tenant : Vec ℕ Global) (credit : ℕ) (report : Report) (name : List ℕ) (old : DeskState) → change ≡ ReportKept tenant credit report → name ≡ tenant.items
    → (copy : Report) × IsCopyOf report copy × RefusesPutBack name (Reported copy) old → RefusesChangeBytes old (change_bytes change)
copy_refused_so change tenant credit report name old is same back =
    (change, refl, subst (λ (c : DeskChange). RefusesChange c old) (sym is) (back.0, back.1, subst (λ (n : List ℕ). RefusesPutBack n (Reported back.0) old) same back.2))

-- the bytes of a change are those that take its job
pub source_so : (change : DeskChange) (tenant : Vec ℕ Global) (programs : Vec ProgramBytes Global) (credit : ℕ) (buffer : Vec ℕ Global) (source : List ℕ) (name : List ℕ) (program_list : List ProgramBytes) (buffer_list : List ℕ)
    → change ≡ Submitted tenant programs credit buffer → source ≡ change_bytes change → name ≡ tenant.items → program_list ≡ programs.items → buffer_list ≡ buffer.items → IsTakingChange name program_list credit buffer_list source
source_so change tenant programs credit buffer source name program_list buffer_list is are name_is programs_are buffer_is = record {
  tenant_bytes = tenant;
  program_list = programs;
  buffer_bytes = buffer;
  is = are ∙ ap change_bytes is;
  tenant = sym name_is;
  programs_are = sym programs_are;
  buffer_is = sym buffer_is;
}
