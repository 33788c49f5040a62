-- A job whose tasks are all whole has its one answer, which is one.
use Rattle.std.proofs.Common.{◌≡◌, ℕ, zero, suc, ◌+◌, ◌-◌, List, [], ◌∷◌, length, map, slice_get, refl, sym, ◌∙◌, arith, ap, subst, Bool, true, false, Some}
use Rattle.std.specs.List.Sorted.{IsPermutation}
use Rattle.std.proofs.lemmas.Option.{slice_get-get_or}
use Rattle.std.proofs.lemmas.List.Sorted.{IsPermutation-map, IsPermutation-sym, IsPermutation-trans}
use Rattle.std.proofs.lemmas.Simd.{map-map}
use Rattle.machine_model.specs.Machine.{Program}
use Rattle.task_trees.specs.Eval.{Finished, root}
use Rattle.task_trees.specs.Answer.{RootComes, joined_bytes, spent_in}
use Rattle.task_trees.specs.Solo.{SpawnRequest}
use Rattle.task_trees.proofs.EvalLemmas.{eval_once}
use Rattle.credit_book.specs.declared.event.TaskEnd.{TaskEnd}
use Rattle.credit_book.specs.declared.book.Report.{Report}
use Rattle.task_register.specs.declared.seats.TaskResult.{TaskResult}
use Rattle.virtual_machine.specs.Through.{none_refused, whole_after}
use Rattle.job_answer.specs.Closing.{ClosesJob}
use Rattle.job_answer.specs.Gathered.{root_start}
use Rattle.job_answer.specs.OneAnswer.{RunsOrNot, runs_by, IsWholeRun, IsJobAnswer, IsToldAs, TaskRow, TellsAnswer, row_of_end, row_of_finished}
use Rattle.job_answer.specs.SpawnTree.{TaskRun, NoneRefused, finished_run}
use Rattle.job_answer.proofs.Closing.{family, whole_where_run}
use Rattle.job_answer.proofs.OverLemmas.{each_at, each_weaker, one_some}

-- none of these spawns was refused
asked_whole : (asked : List SpawnRequest) → none_refused asked ≡ true → (k : ℕ) (a : SpawnRequest) → slice_get asked k ≡ Some a → a.refused ≡ false
asked_whole [] none k a there = absurd (cc)
asked_whole (x ∷ later) none k a there = by_test x.refused refl (λ rest j at. asked_whole later rest j a at) k there
  where
    by_test : (b : Bool) → x.refused ≡ b → (none_refused later ≡ true → (j : ℕ) → slice_get later j ≡ Some a → a.refused ≡ false) → (k : ℕ)
        → slice_get (x ∷ later) k ≡ Some a → a.refused ≡ false
    by_test true is ih k there = absurd (let none_so : whole_after true (none_refused later) ≡ true = subst (λ (c : Bool). whole_after c (none_refused later) ≡ true) is none in cc)
    by_test false is ih zero there = subst (λ (y : SpawnRequest). y.refused ≡ false) (one_some (Some x) x a refl there) is
    by_test false is ih (suc k) there = ih (subst (λ (c : Bool). whole_after c (none_refused later) ≡ true) is none) k there

-- a task that is whole ran
ran_whole : (programs : List Program) (o : TaskResult) (b : Bool) → o.ran ≡ b → runs_by b programs o → IsWholeRun o → o.ran ≡ true
ran_whole programs o true is run whole = is
ran_whole programs o false is run whole = absurd (let none = run.whole in cc)

module _ (programs : List Program) (job credit : ℕ) (buffer : List ℕ) (report : Report)
    (closed : ClosesJob job credit (length buffer) (root_start credit buffer) (λ (o : TaskResult). RunsOrNot programs o × IsWholeRun o) report) where
  abbrev pub runs : ClosesJob job credit (length buffer) (root_start credit buffer) (RunsOrNot programs) report
  runs = record {
    history = closed.history;
    known = closed.known;
    legal = closed.legal;
    complete = closed.complete;
    report_of = closed.report_of;
    agrees = closed.agrees;
    all = closed.all;
    first = closed.first;
    each = each_weaker (λ (o : TaskResult). RunsOrNot programs o × IsWholeRun o) (RunsOrNot programs) (λ o both. both.0) closed.known.over closed.each;
  }

  both_at : (k : ℕ) (o : TaskResult) → slice_get closed.known.over k ≡ Some o → RunsOrNot programs o × IsWholeRun o
  both_at k o there = each_at (λ (x : TaskResult). RunsOrNot programs x × IsWholeRun x) closed.known.over k o closed.each there

  ran : (k : ℕ) (o : TaskResult) → slice_get closed.known.over k ≡ Some o → o.ran ≡ true
  ran k o there = let both = both_at k o there in ran_whole programs o o.ran refl both.0 both.1

  none_of_all : NoneRefused (family programs job credit buffer report runs ran).tasks
  none_of_all = λ n k t a here asked.
      let o = (family programs job credit buffer report runs ran).each n t here in
      let c = o.1 in
      let at : slice_get closed.known.over c.0 ≡ Some o.0 = slice_get-get_or closed.known.over c.0 o.0 c.1 ∙ ap Some c.2 in
      asked_whole t.asked (sym o.6 ∙ (both_at c.0 o.0 at).1) k a asked

  pub closes_whole : IsJobAnswer programs credit buffer report
  closes_whole = whole_where_run programs job credit buffer report runs ran none_of_all

-- two lists of one length that say the same place by place
same_lists : {X Y Z : Type 0} (f : X → Z) (h : Y → Z) (xs : List X) (ys : List Y) → length xs ≡ length ys →
    ((n : ℕ) (y : Y) → slice_get ys n ≡ Some y → (x : X) × (slice_get xs n ≡ Some x) × (f x ≡ h y)) → map f xs ≡ map h ys
same_lists f h [] [] long each = refl
same_lists f h [] (y ∷ ys) long each = absurd (omega (arith, long))
same_lists f h (x ∷ xs) [] long each = absurd (omega (arith, long))
same_lists f h (x ∷ xs) (y ∷ ys) long each =
    let first = each 0 y refl in
    let is : first.0 ≡ x = one_some (Some x) first.0 x first.1 refl in
    let head : f x ≡ h y = ap f (sym is) ∙ first.2 in
    let tail = same_lists f h xs ys (omega (arith, long)) (λ n z there. each (suc n) z there) in
    cc

told_so : (n : ℕ) (t : TaskRun) (e : TaskEnd) → IsToldAs n t e → row_of_end e ≡ row_of_finished (finished_run t)
told_so n t e told =
    let program = told.program in
    let arg = told.arg in
    let given = told.given in
    let spent = told.spent in
    let r0 = told.r0 in
    let held = told.rest in
    let rest : e.rest ≡ t.last.held - t.last.used = omega (arith, spent, held) in
    cc

module _ (programs : List Program) (credit : ℕ) (buffer : List ℕ) (report : Report) (answer : IsJobAnswer programs credit buffer report) where
  rows : map row_of_end report.tasks.items ≡ map row_of_finished (map finished_run answer.one.tasks)
  rows =
      same_lists row_of_end (λ (t : TaskRun). row_of_finished (finished_run t)) report.tasks.items answer.one.tasks answer.one.count
      (λ n t there. let told = answer.one.told n t there in (told.0, told.1, told_so n t told.0 told.2))
      ∙ sym (map-map row_of_finished finished_run answer.one.tasks)

  pub answer_comes : (fs : List Finished) × RootComes programs credit buffer fs × TellsAnswer (length buffer) report fs
  answer_comes =
      let a = answer.one.answer answer.whole in (
        a.0,
        a.1,
        record {
          buffer = a.3;
          spent = a.4;
          tasks = subst (λ (l : List TaskRow). IsPermutation l (map row_of_finished a.0)) (sym rows) (IsPermutation-map row_of_finished (map finished_run answer.one.tasks) a.0 a.2);
        },
      )

  pub answer_is : (fs : List Finished) → RootComes programs credit buffer fs → TellsAnswer (length buffer) report fs
  answer_is fs comes =
      let a = answer_comes in
      subst (TellsAnswer (length buffer) report) (eval_once programs (root credit buffer) buffer a.0 fs a.1 comes) a.2

pub answers_agree : (programs : List Program) (credit : ℕ) (buffer : List ℕ) (a b : Report) → IsJobAnswer programs credit buffer a → IsJobAnswer programs credit buffer b →
    (a.buffer.items ≡ b.buffer.items) × (a.spent ≡ b.spent) × IsPermutation (map row_of_end a.tasks.items) (map row_of_end b.tasks.items)
answers_agree programs credit buffer a b one two =
    let first = answer_comes programs credit buffer a one in
    let second = answer_is programs credit buffer b two first.0 first.1 in (
      first.2.buffer ∙ sym second.buffer,
      first.2.spent ∙ sym second.spent,
      IsPermutation-trans (map row_of_end a.tasks.items) (map row_of_finished first.0) (map row_of_end b.tasks.items) first.2.tasks
          (IsPermutation-sym (map row_of_end b.tasks.items) (map row_of_finished first.0) second.tasks),
    )
