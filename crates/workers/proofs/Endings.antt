-- The report of a legal history with no live task, and what it says of each task.
use Rattle.std.proofs.Common.{ℕ, List, ap, ◌∙◌, sym, arith}
use Rattle.std.specs.Prelude.{slice_get}
use Rattle.credit_book.specs.declared.event.Event.{Event}
use Rattle.credit_book.specs.declared.event.TaskEnd.{TaskEnd}
use Rattle.credit_book.specs.declared.book.Report.{Report}
use Rattle.credit_book.specs.Books.{IsReport}
use Rattle.credit_book.specs.History.{table_of, IsHistoryOf, IsComplete}
use Rattle.credit_book.proofs.Numbering.{numbered_of, whole_of}
use Rattle.workers.specs.Final.{IsFinal}

-- the report of a history with no live task
pub final_of : (job issued size : ℕ) (history : List Event) (report : Report) → IsHistoryOf job issued history → IsComplete (table_of history) →
    IsReport size history report → IsFinal job issued size report
final_of job issued size history report legal complete of =
    let whole = whole_of job issued history legal complete in
    let spent = of.spent in
    let returned = of.returned in
    record {
      history = history;
      legal = legal;
      complete = complete;
      report_of = of;
      whole = omega (arith, whole, spent, returned);
      numbered = λ n task is. numbered_of job issued history legal n task (ap (λ (ts : List TaskEnd). slice_get ts n) (sym of.tasks) ∙ is);
    }
