-- Each task of a closed job's report ran by itself, or wasn't run.
use Rattle.std.proofs.Common.{◌≡◌, ℕ, zero, suc, ◌+◌, ◌<◌, ◌==◌, List, [], ◌∷◌, map, length, get_or, Bool, true, false, Option, Some, refl, sym, ap, ◌∙◌, subst, arith}
use Rattle.std.specs.Prelude.{All, slice_get, cond}
use Rattle.std.specs.List.{count_by}
use Rattle.std.proofs.lemmas.Bool.Decides.{nat_tests}
use Rattle.std.proofs.lemmas.List.Sums.{sum_by-cons}
use Rattle.std.proofs.lemmas.Option.{slice_get-get_or}
use Rattle.machine_model.specs.Machine.{Program}
use Rattle.verifier.specs.Checked.{Checked, program_of}
use Rattle.credit_book.specs.declared.event.TaskEnd.{TaskEnd}
use Rattle.credit_book.specs.declared.book.Report.{Report}
use Rattle.credit_book.specs.History.{table_of}
use Rattle.task_trees.specs.Solo.{IsGiven}
use Rattle.task_register.specs.declared.seats.TaskStart.{TaskStart}
use Rattle.task_register.specs.declared.seats.TaskResult.{TaskResult}
use Rattle.job_answer.specs.Agreement.{ReportsStart, EndsSo, shares}
use Rattle.job_answer.specs.Gathered.{RanByItself}
use Rattle.job_answer.specs.Closing.{ClosesJob}
use Rattle.job_answer.specs.OneAnswer.{RunsOrNot, runs_by}
use Rattle.job_answer.proofs.Closing.{balance_closed}
use Rattle.job_answer.proofs.Desking.{desk_once}
use Rattle.job_answer.proofs.OverLemmas.{each_at, one_some}
use Rattle.job_answer.proofs.SoloCredit.{run_left}
use Rattle.job_answer.proofs.Keyed.{times_below}
use Rattle.workers.specs.EndedAlone.{EndedAlone, GivesAlone, ended_alone}

-- a program of the list as the machine has it is one of the list
unmapped : (programs : List Checked) (n : ℕ) (p : Program) → slice_get (map program_of programs) n ≡ Some p →
    (c : Checked) × (slice_get programs n ≡ Some c) × (program_of c ≡ p)
unmapped [] n p e = absurd (cc)
unmapped (x ∷ xs) zero p e = (x, refl, one_some (Some (program_of x)) (program_of x) p refl e)
unmapped (x ∷ xs) (suc n) p e = unmapped xs n p e

one_where : Bool → ℕ
one_where b = cond b 1 0

-- where some is counted, there is one
pub some_counted : (os : List TaskResult) (n : ℕ) → count_by (λ (o : TaskResult). o.own.number == n) os ≡ 1 →
    (k : ℕ) × (o : TaskResult) × (slice_get os k ≡ Some o) × (o.own.number ≡ n)
unfolding one_where
some_counted [] n one = absurd (omega (arith, one))
some_counted (x ∷ xs) n one = by_test (x.own.number == n) refl (λ rest. some_counted xs n rest)
  where
    by_test : (b : Bool) → (x.own.number == n) ≡ b →
        (count_by (λ (o : TaskResult). o.own.number == n) xs ≡ 1 → (k : ℕ) × (o : TaskResult) × (slice_get xs k ≡ Some o) × (o.own.number ≡ n)) →
        (k : ℕ) × (o : TaskResult) × (slice_get (x ∷ xs) k ≡ Some o) × (o.own.number ≡ n)
    by_test true t ih = (0, x, refl, grind (arith, nat_tests))
    by_test false t ih =
        let split = sum_by-cons (λ (o : TaskResult). one_where (o.own.number == n)) x xs in
        let none : one_where (x.own.number == n) ≡ zero = ap one_where t in
        let later = ih (omega (arith, one, split, none)) in
        (suc later.0, later.1, later.2, later.3)

gives : (programs : List Checked) (o : TaskResult) (e : TaskEnd) (n : ℕ) → ReportsStart n o.own.birth e → e.spent ≡ o.used → e.r0 ≡ o.r0 →
    e.spent + e.rest + shares o.own.children ≡ o.own.birth.share → RanByItself (map program_of programs) o → GivesAlone programs e.program e.arg e.given e.r0 e.spent e.rest
gives programs o e n tells spent r0 balance run =
    let p = unmapped programs o.own.birth.program run.program run.there in
    let left = (run_left (map program_of programs) o run).0 in
    let held : o.used + e.rest ≡ run.last.held = omega (arith, left, balance, spent) in
    rw (tells.program, tells.arg, tells.given, spent, r0) (record {
      program = p.0;
      named = p.1;
      bytes = o.own.birth.bytes;
      suffices = subst (λ (q : Program). IsGiven q o.own.birth.share o.own.birth.bytes) (sym p.2) run.suffices;
      asked = run.asked;
      last = run.last;
      alone = rw p.2 run.alone;
      used_is = run.used;
      rest_is = held;
    })

ended_by_ran : (b : Bool) (programs : List Checked) (o : TaskResult) (e : TaskEnd) (n : ℕ) → o.ran ≡ b → ReportsStart n o.own.birth e → e.spent ≡ o.used → e.r0 ≡ o.r0 → e.ran ≡ o.ran →
    e.spent + e.rest + shares o.own.children ≡ o.own.birth.share → runs_by b (map program_of programs) o → ended_alone b programs e
ended_by_ran true programs o e n ran tells spent r0 same balance run = gives programs o e n tells spent r0 balance run
ended_by_ran false programs o e n ran tells spent r0 same balance run =
    let none : shares o.own.children ≡ 0 = ap shares run.children in
    let used = run.used in
    let given = tells.given in
    record { ran = same ∙ ran; spent = spent ∙ run.used; rest = omega (arith, balance, none, spent, used, given); r0 = r0 ∙ run.r0 }

module _ (programs : List Checked) (job issued size : ℕ) (root : TaskStart) (report : Report)
    (closed : ClosesJob job issued size root (RunsOrNot (map program_of programs)) report) where
  -- the task of a number
  one_alone : (n : ℕ) (e : TaskEnd) → slice_get report.tasks.items n ≡ Some e → n < length closed.known.starts → EndedAlone programs e
  one_alone n e here lt =
      let counted = desk_once closed.known closed.history closed.agrees closed.complete n ∙ times_below n (length closed.known.starts) lt in
      let found = some_counted closed.known.over n counted in
      let k = found.0 in
      let o : TaskResult = found.1 in
      let ends : EndsSo (table_of closed.history).tasks o = closed.agrees.table.ended k o found.2 in
      let born = (closed.all.tasks k o found.2).birth in
      let tells = closed.agrees.table.told o.own.number o.own.birth born in
      let there : slice_get (table_of closed.history).tasks o.own.number ≡ Some e =
      ap (slice_get (table_of closed.history).tasks) found.3 ∙ sym (ap (λ (ts : List TaskEnd). slice_get ts n) closed.report_of.tasks) ∙ here in
      let same : ends.end ≡ e = one_some (slice_get (table_of closed.history).tasks o.own.number) ends.end e ends.there there in
      let told : tells.0 ≡ e = one_some (slice_get (table_of closed.history).tasks o.own.number) tells.0 e tells.1 there in
      let tell : ReportsStart o.own.number o.own.birth e = subst (λ (x : TaskEnd). ReportsStart o.own.number o.own.birth x) told tells.2 in
      let spent : e.spent ≡ o.used = subst (λ (x : TaskEnd). x.spent ≡ o.used) same ends.spent in
      let r0 : e.r0 ≡ o.r0 = subst (λ (x : TaskEnd). x.r0 ≡ o.r0) same ends.r0 in
      let ran : e.ran ≡ o.ran = subst (λ (x : TaskEnd). x.ran ≡ o.ran) same ends.ran in
      let balance = balance_closed job issued size root (RunsOrNot (map program_of programs)) report closed k o found.2 e there in
      subst (λ (b : Bool). ended_alone b programs e) (sym ran)
      (ended_by_ran o.ran programs o e o.own.number refl tell spent r0 ran balance (each_at (RunsOrNot (map program_of programs)) closed.known.over k o closed.each found.2))

  pub all_alone : All (EndedAlone programs) report.tasks.items
  all_alone = λ i d lt.
      let long = closed.agrees.table.long in
      let tasks : length report.tasks.items ≡ length (table_of closed.history).tasks = ap length closed.report_of.tasks in
      one_alone i (get_or report.tasks.items i d) (slice_get-get_or report.tasks.items i d lt) (omega (arith, long, tasks, lt))
