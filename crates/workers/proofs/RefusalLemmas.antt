-- Whether each task that is over is whole.
use Rattle.std.proofs.Common.{◌≡◌, ◌↔◌, ℕ, List, [], ◌∷◌, ◌++◌, Option, None, true}
use Rattle.credit_book.specs.declared.book.Report.{Report}
use Rattle.task_register.specs.declared.seats.TaskStart.{TaskStart}
use Rattle.task_register.specs.declared.seats.TaskResult.{TaskResult}
use Rattle.task_register.specs.Rule.{EachIs}
use Rattle.job_answer.specs.Closing.{ClosesJob}
use Rattle.job_answer.specs.OneAnswer.{IsWholeRun}
use Rattle.job_answer.proofs.OverLemmas.{each_both, each_less, each_more}
use Rattle.workers.specs.Closed.{ClosesWhole}
use Rattle.workers.specs.Locked.{TellsSpawnRefusal}
use Rattle.workers.specs.declared.locked_book.SpawnRefused.{SpawnRefused}

-- one task more is over
pub told_once_more : (before after : Option SpawnRefused) (over : List TaskResult) (o : TaskResult) → TellsSpawnRefusal before over →
    ((after ≡ None) ↔ ((o.whole ≡ true) × (before ≡ None))) → TellsSpawnRefusal after (over ++ o ∷ [])
told_once_more before after over o told step = (
  λ none. let both = step.0 none in each_more IsWholeRun over o (told.0 both.1) both.0,
  λ each. let split = each_less IsWholeRun over o each in step.1 (split.1, told.1 split.0),
)

-- where no refusal is told, each task of the closed job was whole
pub closes_each_whole : (job issued size : ℕ) (root : TaskStart) (runs : TaskResult → Type 0) (refused : Option SpawnRefused) (report : Report) →
    ClosesWhole job issued size root runs refused report → refused ≡ None → ClosesJob job issued size root (λ (o : TaskResult). runs o × IsWholeRun o) report
closes_each_whole job issued size root runs refused report c none = record {
  history = c.closed.history;
  known = c.closed.known;
  legal = c.closed.legal;
  complete = c.closed.complete;
  report_of = c.closed.report_of;
  agrees = c.closed.agrees;
  all = c.closed.all;
  first = c.closed.first;
  each = each_both runs IsWholeRun c.closed.known.over c.closed.each (c.told.0 none);
}
