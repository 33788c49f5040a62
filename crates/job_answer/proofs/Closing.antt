-- What a desk closes to is the one answer.
use Rattle.std.proofs.Common.{◌≡◌, ℕ, suc, ◌+◌, List, [], ◌∷◌, length, map, take, drop, replicate, slice_get, sum_by, refl, sym, ◌∙◌, arith, ap, subst, Bool, true, false, Option, Some}
use Rattle.std.specs.Prelude.{All}
use Rattle.std.proofs.lemmas.Option.{get_or_from_slice_get, slice_get-get_or}
use Rattle.std.proofs.lemmas.List.{length-map}
use Rattle.std.proofs.lemmas.List.Elements.{All-nil, All-cons}
use Rattle.std.proofs.lemmas.List.Sums.{sum_by-cons}
use Rattle.std.proofs.lemmas.List.Sorted.{sum_by-IsPermutation}
use Rattle.machine_model.specs.Machine.{Birth, Program}
use Rattle.machine_model.specs.Memory.{written}
use Rattle.task_trees.specs.Eval.{Finished}
use Rattle.credit_book.specs.declared.event.TaskEnd.{TaskEnd}
use Rattle.credit_book.specs.declared.book.Report.{Report}
use Rattle.credit_book.specs.History.{is_alive, standing_at, table_of, task_at}
use Rattle.task_register.specs.declared.seats.TaskStart.{TaskStart}
use Rattle.task_register.specs.declared.seats.TaskResult.{TaskResult}
use Rattle.task_register.specs.declared.seats.RegisterState.{RegisterState}
use Rattle.task_register.specs.Rule.{EachIs}
use Rattle.job_answer.specs.Agreement.{shares}
use Rattle.job_answer.proofs.SoloCredit.{handed_shares, solo_left}
use Rattle.job_answer.specs.SpawnTree.{NoneRefused, TaskRun, finished_run, given_by, taken}
use Rattle.job_answer.specs.Gathered.{birth_at_start, handed, TaskRemains, remains_of, left_of, laid, laid_from, RanByItself, IsGathered, GatheredTree, root_start, parents_of}
use Rattle.job_answer.proofs.Gathering.{gathers}
use Rattle.job_answer.proofs.Laying.{answers}
use Rattle.job_answer.proofs.Desking.{desk_once}
use Rattle.job_answer.proofs.OverLemmas.{one_some}
use Rattle.job_answer.specs.Closing.{ClosesJob}
use Rattle.job_answer.specs.OneAnswer.{runs_by, RunsOrNot, AllRan, IsJobAnswer, IsToldAs, HasOneAnswer}

nothing : {X : Type 0} (i : ℕ) (x : X) → slice_get [] i ≡ Some x → ⊥
nothing i x e = cc

all_run : (programs : List Program) (os : List TaskResult) → EachIs (RunsOrNot programs) os → ((k : ℕ) (o : TaskResult) → slice_get os k ≡ Some o → o.ran ≡ true) → All (RanByItself programs) os
all_run programs [] each ran = All-nil (RanByItself programs)
all_run programs (o ∷ os) each ran =
    All-cons (RanByItself programs) o os (subst (λ b. runs_by b programs o) (ran 0 o refl) each.0) (all_run programs os each.1 (λ k x there. ran (suc k) x there))

first_long : (starts : List TaskStart) (root : TaskStart) → slice_get starts 0 ≡ Some root → length starts ≡ suc (length (drop 1 starts))
first_long [] root there = absurd (nothing 0 root there)
first_long (b ∷ bs) root there = refl

not_alive : (b : Bool) → (b ≡ true → ⊥) → b ≡ false
not_alive true none = absurd (none refl)
not_alive false none = refl

-- once all tasks are over, what each spent and returned, with its children's shares, is what it was given
pub balance_closed : (job issued size : ℕ) (root : TaskStart) (runs : TaskResult → Type 0) (report : Report) (closed : ClosesJob job issued size root runs report) →
    (k : ℕ) (o : TaskResult) → slice_get closed.known.over k ≡ Some o → (e : TaskEnd) → slice_get (table_of closed.history).tasks o.own.number ≡ Some e →
    e.spent + e.rest + shares o.own.children ≡ o.own.birth.share
balance_closed job issued size root runs report closed k o over e here =
    let task = closed.all.tasks k o over in
    let n : ℕ = o.own.number in
    let balanced = closed.agrees.table.balanced n o.own.birth task.birth in
    let over_now = balanced.over (not_alive (is_alive (standing_at (table_of closed.history) n).stage) (closed.complete n)) in
    let is : task_at (table_of closed.history) n ≡ e = get_or_from_slice_get (table_of closed.history).tasks n e _ here in
    let spent = ap (λ (x : TaskEnd). x.spent) is in
    let rest = ap (λ (x : TaskEnd). x.rest) is in
    let all = ap shares task.children in
    omega (arith, over_now, spent, rest, all)

-- two lists of one length, with the same numbers place by place
same_sums : {X Y : Type 0} (f : X → ℕ) (h : Y → ℕ) (xs : List X) (ys : List Y) → length xs ≡ length ys →
    ((n : ℕ) (y : Y) → slice_get ys n ≡ Some y → (x : X) × (slice_get xs n ≡ Some x) × (f x ≡ h y)) → sum_by f xs ≡ sum_by h ys
same_sums f h [] [] long each = refl
same_sums f h [] (y ∷ ys) long each = absurd (omega (arith, long))
same_sums f h (x ∷ xs) [] long each = absurd (omega (arith, long))
same_sums f h (x ∷ xs) (y ∷ ys) long each =
    let first = each 0 y refl in
    let is : first.0 ≡ x = one_some (slice_get (x ∷ xs) 0) first.0 x first.1 refl in
    let head : f x ≡ h y = ap f (sym is) ∙ first.2 in
    let tail = same_sums f h xs ys (omega (arith, long)) (λ n z there. each (suc n) z there) in
    sum_by-cons f x xs ∙ omega (arith, head, tail) ∙ sym (sum_by-cons h y ys)

-- what the tasks of a register left is what those of the tree did
laid_told : (memory : List ℕ) (fs : List Finished) (os : List TaskResult) → map left_of fs ≡ map remains_of os → laid_from memory os ≡ laid memory fs
laid_told memory [] [] told = refl
laid_told memory [] (o ∷ os) told = absurd (cc)
laid_told memory (f ∷ fs) [] told = absurd (cc)
laid_told memory (f ∷ fs) (o ∷ os) told =
    let head : left_of f ≡ remains_of o = cc in
    let tail : map left_of fs ≡ map remains_of os = cc in
    ap (λ (p : TaskRemains). laid_from (take (length memory) (written memory p.base p.bytes)) os) (sym head)
    ∙ laid_told (take (length memory) (written memory f.ending.base f.bytes)) fs os tail

mapped_sum : (ts : List TaskRun) → sum_by (λ (t : TaskRun). t.last.used) ts ≡ sum_by (λ (f : Finished). f.ending.spent) (map finished_run ts)
mapped_sum [] = refl
mapped_sum (t ∷ ts) =
    sum_by-cons (λ (x : TaskRun). x.last.used) t ts ∙ ap (λ n. t.last.used + n) (mapped_sum ts)
    ∙ sym (sum_by-cons (λ (f : Finished). f.ending.spent) (finished_run t) (map finished_run ts))

module _ (programs : List Program) (job credit : ℕ) (buffer : List ℕ) (report : Report)
    (closed : ClosesJob job credit (length buffer) (root_start credit buffer) (RunsOrNot programs) report)
    (ran : (k : ℕ) (o : TaskResult) → slice_get closed.known.over k ≡ Some o → o.ran ≡ true) where
  abbrev known : RegisterState
  known = closed.known

  pub gathered : IsGathered programs credit buffer known
  gathered = record {
    all = closed.all;
    root = closed.first;
    runs = all_run programs known.over closed.each ran;
    once = desk_once known closed.history closed.agrees closed.complete;
  }

  abbrev pub family : GatheredTree programs credit buffer known
  family = gathers programs credit buffer known gathered

  -- what a task spent and returned is what it held at its end
  rests : (n : ℕ) (t : TaskRun) → slice_get family.tasks n ≡ Some t → (o : TaskResult) (k : ℕ) → slice_get known.over k ≡ Some o → o.own.number ≡ n → birth_at_start o.own.birth ≡ t.birth →
      o.own.children ≡ map (handed n o.own.birth.base) (taken t.asked) → (e : TaskEnd) → slice_get (table_of closed.history).tasks o.own.number ≡ Some e → e.spent + e.rest ≡ t.last.held
  rests n t there o k over number birth children e here =
      let balance = balance_closed job credit (length buffer) (root_start credit buffer) (RunsOrNot programs) report closed k o over e here in
      let given : shares o.own.children ≡ given_by (taken t.asked) = ap shares children ∙ handed_shares n o.own.birth.base (taken t.asked) in
      let ran = family.family.ran n t there in
      let left = solo_left ran.program _ t.r0 ran.alone.0 t.last t.asked _ ran.alone.1 in
      let whole = left.whole in
      let share = ap (λ (b : Birth). b.share) birth in
      omega (arith, balance, given, whole, share)

  told_as : (n : ℕ) (t : TaskRun) → slice_get family.tasks n ≡ Some t → (e : TaskEnd) × (slice_get report.tasks.items n ≡ Some e) × IsToldAs n t e
  told_as n t there =
      let o = family.each n t there in
      let c = o.1 in
      let at : slice_get known.over c.0 ≡ Some o.0 = slice_get-get_or known.over c.0 o.0 c.1 ∙ ap Some c.2 in
      let e = closed.agrees.table.ended c.0 o.0 at in
      let born : slice_get known.starts n ≡ Some o.0.own.birth = ap (slice_get known.starts) (sym o.2) ∙ (closed.all.tasks c.0 o.0 at).birth in
      let tells = closed.agrees.table.told n o.0.own.birth born in
      let here : slice_get (table_of closed.history).tasks n ≡ Some e.end = ap (slice_get (table_of closed.history).tasks) (sym o.2) ∙ e.there in
      let same : tells.0 ≡ e.end = one_some (slice_get (table_of closed.history).tasks n) tells.0 e.end tells.1 here in
      let birth = o.3 in
      let piece = o.4 in (
        e.end,
        ap (λ (ts : List TaskEnd). slice_get ts n) closed.report_of.tasks ∙ here,
        record {
          number = ap (λ (x : TaskEnd). x.number) (sym same) ∙ tells.2.number;
          program = ap (λ (x : TaskEnd). x.program) (sym same) ∙ tells.2.program ∙ ap (λ b. b.program) birth;
          arg = ap (λ (x : TaskEnd). x.arg) (sym same) ∙ tells.2.arg ∙ ap (λ b. b.arg) birth;
          given = ap (λ (x : TaskEnd). x.given) (sym same) ∙ tells.2.given ∙ ap (λ b. b.share) birth;
          spent = e.spent ∙ ap (λ (p : TaskRemains). p.spent) piece;
          r0 = e.r0 ∙ ap (λ (p : TaskRemains). p.r0) piece;
          rest = rests n t there o.0 c.0 at o.2 o.3 o.5 e.end e.there;
          ran = e.ran ∙ ran c.0 o.0 at;
        },
      )

  long : length report.tasks.items ≡ length family.tasks
  long =
      ap length closed.report_of.tasks ∙ closed.agrees.table.long ∙ first_long known.starts (root_start credit buffer) closed.first
      ∙ ap suc (sym (length-map (drop 1 known.starts) (λ (b : TaskStart). b.parent))) ∙ sym family.family.long

  pub closes_where_run : HasOneAnswer programs credit buffer report
  closes_where_run = record {
    parents = parents_of known;
    tasks = family.tasks;
    family = family.family;
    count = long;
    told = told_as;
    ended = family.ended;
    order = family.order;
    left = closed.report_of.buffer ∙ closed.agrees.left (length buffer) ∙ laid_told (replicate (length buffer) 0) family.ended known.over family.told;
    answer = λ none.
        let a = answers programs credit buffer known family none in
        let sums : sum_by (λ (e : TaskEnd). e.spent) report.tasks.items ≡ sum_by (λ (t : TaskRun). t.last.used) family.tasks =
        same_sums (λ (e : TaskEnd). e.spent) (λ (t : TaskRun). t.last.used) report.tasks.items family.tasks long
        (λ n t there. let told = told_as n t there in (told.0, told.1, told.2.spent)) in (
          a.fs,
          a.comes,
          a.all,
          closed.report_of.buffer ∙ closed.agrees.left (length buffer) ∙ a.buffer_is,
          closed.report_of.spent ∙ ap (sum_by (λ (e : TaskEnd). e.spent)) (sym closed.report_of.tasks) ∙ sums ∙ mapped_sum family.tasks
              ∙ sym (sum_by-IsPermutation (λ (f : Finished). f.ending.spent) (map finished_run family.tasks) a.fs a.all),
        );
  }

  -- it is the one answer, where none was refused a spawn
  pub whole_where_run : NoneRefused family.tasks → IsJobAnswer programs credit buffer report
  unfolding closes_where_run
  whole_where_run none = record { one = closes_where_run; whole = none }

-- each task that is over ran, where each task of the report did
pub closes : (programs : List Program) (job credit : ℕ) (buffer : List ℕ) (report : Report) →
    ClosesJob job credit (length buffer) (root_start credit buffer) (RunsOrNot programs) report → AllRan report → HasOneAnswer programs credit buffer report
closes programs job credit buffer report closed all_ran =
    closes_where_run programs job credit buffer report closed (λ k o there.
    let e = closed.agrees.table.ended k o there in
    sym e.ran ∙ all_ran o.own.number e.end (ap (λ (ts : List TaskEnd). slice_get ts o.own.number) closed.report_of.tasks ∙ e.there))
