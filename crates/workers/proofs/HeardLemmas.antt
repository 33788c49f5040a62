-- What holds of each task that is over, and what it says of a closed job's report.
use Rattle.std.proofs.Common.{◌≡◌, ℕ, ◌<◌, List, [], ◌∷◌, length, get_or, Bool, true, Some, refl, sym, ap, ◌∙◌, subst, arith}
use Rattle.std.specs.Prelude.{All, slice_get}
use Rattle.std.proofs.lemmas.Option.{slice_get-get_or}
use Rattle.credit_book.specs.declared.event.TaskEnd.{TaskEnd}
use Rattle.credit_book.specs.declared.book.Report.{Report}
use Rattle.credit_book.specs.declared.task.Outcome.{Outcome}
use Rattle.credit_book.specs.History.{table_of}
use Rattle.task_register.specs.declared.seats.SeatedTask.{SeatedTask}
use Rattle.task_register.specs.declared.seats.TaskStart.{TaskStart}
use Rattle.task_register.specs.declared.seats.TaskResult.{TaskResult}
use Rattle.job_answer.specs.Agreement.{ReportsStart, EndsSo}
use Rattle.job_answer.specs.Closing.{ClosesJob}
use Rattle.job_answer.proofs.Desking.{desk_once}
use Rattle.job_answer.proofs.OverLemmas.{each_at, one_some}
use Rattle.job_answer.proofs.Keyed.{times_below}
use Rattle.workers.specs.Heard.{HasHeard, HasHeardAll}
use Rattle.workers.specs.Seats.{IsTaskOver, RanAndPaid}
use Rattle.workers.proofs.AloneLemmas.{some_counted}

module _ {G : Type 0} (begins ends : G → ℕ → Type 0) (gate : G) (runs : TaskResult → Type 0)
    (heard : (o : TaskResult) → runs o → o.ran ≡ true → HasHeard begins ends gate o.own.number)
    (job issued size : ℕ) (root : TaskStart) (report : Report) (closed : ClosesJob job issued size root runs report) where
  -- the task of a number
  one_heard : (n : ℕ) (e : TaskEnd) → slice_get report.tasks.items n ≡ Some e → n < length closed.known.starts → e.ran ≡ true → HasHeard begins ends gate e.number
  one_heard n e here lt ran =
      let counted = desk_once closed.known closed.history closed.agrees closed.complete n ∙ times_below n (length closed.known.starts) lt in
      let found = some_counted closed.known.over n counted in
      let k = found.0 in
      let o : TaskResult = found.1 in
      let ends_so : EndsSo (table_of closed.history).tasks o = closed.agrees.table.ended k o found.2 in
      let born = (closed.all.tasks k o found.2).birth in
      let tells = closed.agrees.table.told o.own.number o.own.birth born in
      let there : slice_get (table_of closed.history).tasks o.own.number ≡ Some e =
      ap (slice_get (table_of closed.history).tasks) found.3 ∙ sym (ap (λ (ts : List TaskEnd). slice_get ts n) closed.report_of.tasks) ∙ here in
      let same : ends_so.end ≡ e = one_some (slice_get (table_of closed.history).tasks o.own.number) ends_so.end e ends_so.there there in
      let told : tells.0 ≡ e = one_some (slice_get (table_of closed.history).tasks o.own.number) tells.0 e tells.1 there in
      let tell : ReportsStart o.own.number o.own.birth e = subst (λ (x : TaskEnd). ReportsStart o.own.number o.own.birth x) told tells.2 in
      let ran_so : e.ran ≡ o.ran = subst (λ (x : TaskEnd). x.ran ≡ o.ran) same ends_so.ran in
      subst (λ (i : ℕ). HasHeard begins ends gate i) (sym tell.number) (heard o (each_at runs closed.known.over k o closed.each found.2) (sym ran_so ∙ ran))

  pub all_heard : HasHeardAll begins ends gate report
  all_heard = λ i d lt.
      let long = closed.agrees.table.long in
      let tasks : length report.tasks.items ≡ length (table_of closed.history).tasks = ap length closed.report_of.tasks in
      one_heard i (get_or report.tasks.items i d) (slice_get-get_or report.tasks.items i d lt) (omega (arith, long, tasks, lt))

-- a task that is over is settled once it is known that the gate was told of it
pub settled_heard : (runs : TaskResult → Type 0) (heard : ℕ → Type 0) (seat : _) (outcome : Outcome) (whole : Bool) (number : ℕ) → outcome.number ≡ number → (outcome.ran ≡ true → heard number)
    → IsTaskOver (λ o. (o.ran ≡ true → heard o.own.number) → RanAndPaid runs o) seat outcome whole → IsTaskOver (RanAndPaid runs) seat outcome whole
settled_heard runs heard seat outcome whole number is told over = record {
  task = over.task;
  there = over.there;
  number = over.number;
  runs = over.runs (λ ran. subst heard (sym (over.number ∙ is)) (told ran));
}
