-- What a world answers of the job behind it.
use Rattle.std.specs.Prelude.{◌≡◌, ℕ, length, slice_get, sum_by, Some}
use Rattle.machine_model.specs.JobState.{JobState, Member, held_by, returned_by, spent_by, used_by}
use Rattle.credit_book.specs.declared.book.Report.{Report}
use Rattle.job_core.specs.declared.totals.Totals.{Totals}
use Rattle.job_core.specs.Representation.{end_of}

-- the sums over the job's tasks
pub record AreTotals (totals : Totals) (j : JobState) : Type 0 where
  pub held : totals.held ≡ sum_by held_by j.tasks
  pub returned : totals.returned ≡ sum_by returned_by j.tasks
  pub spent : totals.spent ≡ sum_by spent_by j.tasks
  pub used : totals.used ≡ sum_by used_by j.tasks

-- the report of the job: its sums, its buffer, and each of its tasks
pub record IsReportOf (report : Report) (j : JobState) : Type 0 where
  pub spent : report.spent ≡ sum_by spent_by j.tasks
  pub returned : report.returned ≡ sum_by returned_by j.tasks
  pub buffer : report.buffer.items ≡ j.buffer
  pub count : length report.tasks.items ≡ length j.tasks
  pub tasks : (n : ℕ) (m : Member) → slice_get j.tasks n ≡ Some m
      → slice_get report.tasks.items n ≡ Some (end_of n m)
