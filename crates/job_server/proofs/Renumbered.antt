-- A run of a job is one under any number.
use Rattle.std.proofs.Common.{ℕ, List, ◌∷◌, Result, Ok, Err, refl, subst}
use Rattle.credit_book.specs.declared.book.Report.{Report}
use Rattle.credit_book.specs.declared.event.Event.{Event}
use Rattle.credit_book.specs.declared.event.Event.TheVariants.{Open}
use Rattle.credit_book.specs.History.{IsLegal, IsComplete, table_of}
use Rattle.credit_book.specs.Books.{IsReport}
use Rattle.job_core.specs.Admitted.{AdmittedJob}
use Rattle.workers.specs.Final.{IsFinal}
use Rattle.job_pools.specs.Endings.{IsEndOf}

opened_again : (a b issued size : ℕ) (later : List Event) (report : Report) → IsReport size (Open a issued ∷ later) report → IsReport size (Open b issued ∷ later) report
opened_again a b issued size later report r = record { spent = r.spent; returned = r.returned; buffer = r.buffer; tasks = r.tasks }

final_again : (a b issued size : ℕ) (report : Report) → IsFinal a issued size report → IsFinal b issued size report
final_again a b issued size report f =
    let later = f.legal.1.0 in
    let is = f.legal.1.1 in
    record {
      history = Open b issued ∷ later;
      legal = (subst IsLegal is f.legal.0, (later, refl));
      complete = subst (λ (h : List Event). IsComplete (table_of h)) is f.complete;
      report_of = opened_again a b issued size later report (subst (λ (h : List Event). IsReport size h report) is f.report_of);
      whole = f.whole;
      numbered = f.numbered;
    }

pub end_again : (a b : ℕ) (job : AdmittedJob) (outcome : Result Report ℕ) → IsEndOf a job outcome → IsEndOf b job outcome
end_again a b job (Ok report) run = record { final = final_again a b job.credit _ report run.final; answer = run.answer }
end_again a b job (Err code) fault = fault
