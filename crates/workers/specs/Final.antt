-- The report of a job that has run to its end.
use Rattle.std.specs.Prelude.{◌≡◌, ℕ, ◌+◌, List, slice_get, Some}
use Rattle.credit_book.specs.declared.event.Event.{Event}
use Rattle.credit_book.specs.declared.event.TaskEnd.{TaskEnd}
use Rattle.credit_book.specs.declared.book.Report.{Report}
use Rattle.credit_book.specs.History.{IsHistoryOf, IsComplete, table_of}
use Rattle.credit_book.specs.Books.{IsReport}

-- The report is that of a legal history of this job with no live task, and of so many bytes. What
-- was spent and returned adds up to what was issued, and the tasks are numbered from 0 up.
pub record IsFinal (job issued size : ℕ) (report : Report) : Type 0 where
  pub history : List Event
  pub legal : IsHistoryOf job issued history
  pub complete : IsComplete (table_of history)
  pub report_of : IsReport size history report
  pub whole : report.spent + report.returned ≡ issued
  pub numbered : (n : ℕ) (task : TaskEnd) → slice_get report.tasks.items n ≡ Some task
      → task.number ≡ n
