-- The report of a world whose job is complete.
use Rattle.std.proofs.Common.{◌∙◌, ap, refl, length, slice_get, Option, Some, None}
use Rattle.std.specs.Option.{IfSome, IsSome}
use Rattle.credit_book.specs.Books.{IsReport}
use Rattle.credit_book.specs.declared.book.Report.{Report}
use Rattle.credit_book.specs.declared.event.TaskEnd.{TaskEnd}
use Rattle.std.specs.Prelude.{List}
use Rattle.machine_model.specs.JobState.{JobState, IsComplete}
use Rattle.job_core.specs.declared.tasks.Tasks.{Tasks}
use Rattle.job_core.specs.Keeping.{kept_of}
use Rattle.job_core.specs.Representation.{RepresentsJob}
use Rattle.job_core.specs.Answers.{IsReportOf}
use Rattle.job_core.proofs.Buffers.{collected_all}
use Rattle.job_core.proofs.Plays.{complete_is}

-- what a clause says of the value in a `Some`, where there is one
pub in_some : {X : Type 0} {P Q : X → Type 0} (o : Option X) → IfSome o P → ((x : X) → IsSome o → P x → Q x) → IfSome o Q
in_some None is follows = tt
in_some (Some x) is follows = follows x refl is

pub report_of : (tasks : Tasks) (j : JobState) (report : Report) → RepresentsJob (kept_of tasks) j → IsComplete j →
    IsReport tasks.ledger.book.size tasks.ledger.book.history report → IsReportOf report j
report_of tasks j report behind complete is = record {
  spent = is.spent ∙ behind.kept_are.spent;
  returned = is.returned ∙ behind.kept_are.returned;
  buffer = is.buffer ∙ collected_all (kept_of tasks) j behind ((complete_is (kept_of tasks) j behind).1 complete);
  count = ap length is.tasks ∙ behind.kept_are.ends;
  tasks = λ n m e. ap (λ (ts : List TaskEnd). slice_get ts n) is.tasks ∙ behind.kept_are.each_end n m e;
}
