-- A job whose tasks are all over.
use Rattle.std.specs.Prelude.{◌≡◌, ℕ, List, slice_get, Some}
use Rattle.credit_book.specs.declared.event.Event.{Event}
use Rattle.credit_book.specs.declared.book.Report.{Report}
use Rattle.credit_book.specs.Books.{IsReport}
use Rattle.credit_book.specs.History.{IsHistoryOf, IsComplete, table_of}
use Rattle.task_register.specs.declared.seats.TaskStart.{TaskStart}
use Rattle.task_register.specs.declared.seats.TaskResult.{TaskResult}
use Rattle.task_register.specs.declared.seats.RegisterState.{RegisterState}
use Rattle.task_register.specs.Rule.{AllKnown, EachIs}
use Rattle.job_answer.specs.Agreement.{RegisterAgrees}

-- The report is that of a legal history whose tasks are all over. Each of them was started, as the
-- first of all or by its parent, with what it ran on, and it ran as is to hold of each.
pub record ClosesJob (job issued size : ℕ) (root : TaskStart) (runs : TaskResult → Type 0)
    (report : Report) : Type 0 where
  pub history : List Event
  pub known : RegisterState
  pub legal : IsHistoryOf job issued history
  pub complete : IsComplete (table_of history)
  pub report_of : IsReport size history report
  pub agrees : RegisterAgrees known history
  pub all : AllKnown known
  pub first : slice_get known.starts 0 ≡ Some root
  pub each : EachIs runs known.over
