-- The tasks of a register that are all over are a family.
use Rattle.std.proofs.Common.{◌≡◌, ℕ, zero, suc, ◌<◌, ◌≤◌, ◌+◌, List, [], ◌∷◌, ◌++◌, get_or, length, map, take, drop, slice_get, refl, sym, ◌∙◌, arith, ap, subst, Bool, true, false, ◌==◌, ◌⊎◌, inl, inr, Option, Some}
use mathlib.Core.Logic.{dite}
use native.Mathlib.Decide.{dec_lt}
use Rattle.std.specs.Prelude.{cond, Contains}
use Rattle.std.specs.List.{count_by, filter}
use Rattle.std.specs.List.Sorted.{IsPermutation}
use Rattle.std.proofs.lemmas.List.{length-map, take-map}
use Rattle.std.proofs.lemmas.List.Elements.{filter-append}
use Rattle.std.proofs.lemmas.List.Sums.{sum_by-cons, length-filter}
use Rattle.std.proofs.lemmas.Option.{slice_get_within, get_or_from_slice_get}
use Rattle.std.proofs.lemmas.Bool.Decides.{nat_tests}
use Rattle.machine_model.specs.Machine.{Program}
use Rattle.task_trees.specs.Eval.{Finished}
use Rattle.task_trees.specs.Families.{children_of}
use Rattle.virtual_machine.specs.Through.{none_refused}
use Rattle.std.proofs.lemmas.List.Sorted.{IsPermutation-map}
use Rattle.std.proofs.lemmas.Simd.{map-map}
use Rattle.task_register.specs.declared.seats.TaskStart.{TaskStart}
use Rattle.task_register.specs.declared.seats.TaskResult.{TaskResult}
use Rattle.task_register.specs.declared.seats.RegisterState.{RegisterState}
use Rattle.task_register.specs.Rule.{IsTask, children_in}
use Rattle.job_answer.specs.SpawnTree.{TaskRun, RanSo, IsChildOf, IsSpawnTree, finished_run, taken, root_birth}
use Rattle.job_answer.specs.Gathered.{birth_at_start, handed, RanByItself, root_start, numbers_to, IsGathered, parents_of, remains_of, left_of, GatheredTree}
use Rattle.job_answer.proofs.Keyed.{Each, count, find, found_key, found_all, split_at, in_order, each_of_all, times_below, times_above, get_numbered, long_numbers}

nothing : {X : Type 0} (i : ℕ) (x : X) → slice_get [] i ≡ Some x → ⊥
nothing i x e = cc

one_some : {X : Type 0} (o : Option X) (a b : X) → o ≡ Some a → o ≡ Some b → a ≡ b
one_some o a b x y = cc

each_of_index : {X : Type 0} (P : X → Type 0) (xs : List X) → ((k : ℕ) (x : X) → slice_get xs k ≡ Some x → P x) → Each P xs
each_of_index P [] f = tt
each_of_index P (x ∷ xs) f = (f 0 x refl, each_of_index P xs (λ k y there. f (suc k) y there))

-- ---- the children of a task, by their places in the list

tail_get : {X : Type 0} (xs : List X) (n : ℕ) (x : X) → slice_get (drop 1 xs) n ≡ Some x → slice_get xs (suc n) ≡ Some x
tail_get [] n x e = absurd (nothing n x e)
tail_get (y ∷ ys) n x e = e

tail_long : {X : Type 0} (xs : List X) → 0 < length xs → length xs ≡ suc (length (drop 1 xs))
tail_long [] lt = absurd (omega (arith, lt))
tail_long (y ∷ ys) lt = refl

mapped_get : {X Y : Type 0} (f : X → Y) (xs : List X) (n : ℕ) (y : Y) → slice_get (map f xs) n ≡ Some y → (x : X) × (slice_get xs n ≡ Some x) × (f x ≡ y)
mapped_get f [] n y e = absurd (nothing n y e)
mapped_get f (x ∷ xs) zero y e = (x, refl, cc)
mapped_get f (x ∷ xs) (suc n) y e = mapped_get f xs n y e

abbrev as_one : Bool → ℕ
as_one b = cond b 1 0

children_mapped : (p : ℕ) (xs : List TaskStart) → children_of p (map (λ (s : TaskStart). s.parent) xs) ≡ count_by (λ (s : TaskStart). s.parent == p) xs
children_mapped p [] = refl
children_mapped p (s ∷ ss) =
    sum_by-cons (λ (q : ℕ). as_one (q == p)) s.parent (map (λ (x : TaskStart). x.parent) ss)
    ∙ ap (λ n. as_one (s.parent == p) + n) (children_mapped p ss)
    ∙ sym (sum_by-cons (λ (x : TaskStart). as_one (x.parent == p)) s ss)

equal_is : (a p : ℕ) → a ≡ p → (a == p) ≡ true
equal_is a p e = grind (arith, nat_tests)

-- where an element stands among those that pass a test
filtered_get : (p : ℕ) (xs : List TaskStart) (n : ℕ) (s : TaskStart) → slice_get xs n ≡ Some s → s.parent ≡ p →
    slice_get (filter (λ (x : TaskStart). x.parent == p) xs) (count_by (λ (x : TaskStart). x.parent == p) (take n xs)) ≡ Some s
filtered_get p [] n s there is = absurd (nothing n s there)
filtered_get p (x ∷ xs) zero s there is =
    let same : x ≡ s = cc in
    let test : (x.parent == p) ≡ true = equal_is x.parent p (ap (λ (y : TaskStart). y.parent) same ∙ is) in
    ap (λ l. slice_get l 0) (filter-append (λ (y : TaskStart). y.parent == p) (x ∷ []) xs ∙ ap (λ l. l ++ filter (λ (y : TaskStart). y.parent == p) xs) (one_in x test)) ∙ there
  where
    one_in : (x : TaskStart) → (x.parent == p) ≡ true → filter (λ (y : TaskStart). y.parent == p) (x ∷ []) ≡ x ∷ []
    one_in x t = grind (arith, t)
filtered_get p (x ∷ xs) (suc n) s there is = by_test (λ e. filtered_get p xs n s there is) (x.parent == p) refl
  where
    one_in : (x : TaskStart) → (x.parent == p) ≡ true → filter (λ (y : TaskStart). y.parent == p) (x ∷ []) ≡ x ∷ []
    one_in x t = grind (arith, t)

    none_in : (x : TaskStart) → (x.parent == p) ≡ false → filter (λ (y : TaskStart). y.parent == p) (x ∷ []) ≡ []
    none_in x t = grind (arith, t)

    by_test : (Unit {0} → slice_get (filter (λ (y : TaskStart). y.parent == p) xs) (count_by (λ (y : TaskStart). y.parent == p) (take n xs)) ≡ Some s) →
        (b : Bool) → (x.parent == p) ≡ b →
        slice_get (filter (λ (y : TaskStart). y.parent == p) (x ∷ xs)) (count_by (λ (y : TaskStart). y.parent == p) (x ∷ take n xs)) ≡ Some s
    by_test ih true t =
        let front : filter (λ (y : TaskStart). y.parent == p) (x ∷ xs) ≡ x ∷ filter (λ (y : TaskStart). y.parent == p) xs =
        filter-append (λ (y : TaskStart). y.parent == p) (x ∷ []) xs ∙ ap (λ l. l ++ filter (λ (y : TaskStart). y.parent == p) xs) (one_in x t) in
        let counted : count_by (λ (y : TaskStart). y.parent == p) (x ∷ take n xs) ≡ suc (count_by (λ (y : TaskStart). y.parent == p) (take n xs)) =
        sum_by-cons (λ (y : TaskStart). as_one (y.parent == p)) x (take n xs) ∙ ap (λ b. as_one b + count_by (λ (y : TaskStart). y.parent == p) (take n xs)) t ∙ omega arith in
        ap (λ l. slice_get l (count_by (λ (y : TaskStart). y.parent == p) (x ∷ take n xs))) front
        ∙ ap (slice_get (x ∷ filter (λ (y : TaskStart). y.parent == p) xs)) counted ∙ ih tt
    by_test ih false t =
        let front : filter (λ (y : TaskStart). y.parent == p) (x ∷ xs) ≡ filter (λ (y : TaskStart). y.parent == p) xs =
        filter-append (λ (y : TaskStart). y.parent == p) (x ∷ []) xs ∙ ap (λ l. l ++ filter (λ (y : TaskStart). y.parent == p) xs) (none_in x t) in
        let counted : count_by (λ (y : TaskStart). y.parent == p) (x ∷ take n xs) ≡ count_by (λ (y : TaskStart). y.parent == p) (take n xs) =
        sum_by-cons (λ (y : TaskStart). as_one (y.parent == p)) x (take n xs) ∙ ap (λ b. as_one b + count_by (λ (y : TaskStart). y.parent == p) (take n xs)) t ∙ omega arith in
        ap (λ l. slice_get l (count_by (λ (y : TaskStart). y.parent == p) (x ∷ take n xs))) front
        ∙ ap (slice_get (filter (λ (y : TaskStart). y.parent == p) xs)) counted ∙ ih tt

-- ---- places

module _ (parents : List ℕ) (older : (n p : ℕ) → slice_get parents n ≡ Some p → p ≤ n) where
  -- the place of a task that fewer tasks than so many stand above
  place_by : ℕ → ℕ → List ℕ
  place_by zero n = []
  place_by (suc f) zero = []
  place_by (suc f) (suc n) = place_by f (get_or parents n 0) ++ suc (children_of (get_or parents n 0) (take n parents)) ∷ []

  abbrev place : ℕ → List ℕ
  place n = place_by (suc n) n

  place_under : (f g n p : ℕ) → slice_get parents n ≡ Some p → (place_by f p ≡ place_by g p) → place_by (suc f) (suc n) ≡ place_by g p ++ suc (children_of p (take n parents)) ∷ []
  unfolding place_by
  place_under f g n p there same =
      let at : get_or parents n 0 ≡ p = get_or_from_slice_get parents n p 0 there in
      ap (λ (q : ℕ). place_by f q ++ suc (children_of q (take n parents)) ∷ []) at ∙ ap (λ l. l ++ suc (children_of p (take n parents)) ∷ []) same

element : {X : Type 0} (xs : List X) (k : ℕ) → k < length xs → (x : X) × (slice_get xs k ≡ Some x)
element [] k lt = absurd (omega (arith, lt))
element (x ∷ xs) zero lt = (x, refl)
element (x ∷ xs) (suc k) lt = element xs k (omega (arith, lt))

module _ (parents : List ℕ) (older : (n p : ℕ) → slice_get parents n ≡ Some p → p ≤ n) where
  -- so many suffice
  same_place : (f g n : ℕ) → n ≤ length parents → n < f → n < g → place_by parents older f n ≡ place_by parents older g n
  unfolding place_by
  same_place zero g n within lt lt' = absurd (omega (arith, lt))
  same_place (suc f) zero n within lt lt' = absurd (omega (arith, lt'))
  same_place (suc f) (suc g) zero within lt lt' = refl
  same_place (suc f) (suc g) (suc n) within lt lt' =
      let p = element parents n (omega (arith, within)) in
      let le = older n p.0 p.1 in
      let at : get_or parents n 0 ≡ p.0 = get_or_from_slice_get parents n p.0 0 p.1 in
      ap (λ (q : ℕ). place_by parents older f q ++ suc (children_of q (take n parents)) ∷ []) at
      ∙ ap (λ l. l ++ suc (children_of p.0 (take n parents)) ∷ []) (same_place f g p.0 (omega (arith, within, le)) (omega (arith, lt, le)) (omega (arith, lt', le)))
      ∙ ap (λ (q : ℕ). place_by parents older g q ++ suc (children_of q (take n parents)) ∷ []) (sym at)

  place_child : (n p : ℕ) → slice_get parents n ≡ Some p → place parents older (suc n) ≡ place parents older p ++ suc (children_of p (take n parents)) ∷ []
  place_child n p there =
      let le = older n p there in
      let within = slice_get_within parents n p there in
      place_under parents older (suc n) (suc p) n p there (same_place (suc n) (suc p) p (omega (arith, within, le)) (omega (arith, le)) (omega arith))

  place_root : place parents older 0 ≡ []
  unfolding place_by
  place_root = refl

-- ---- the tasks

module _ (programs : List Program) (credit : ℕ) (buffer : List ℕ) (known : RegisterState) (g : IsGathered programs credit buffer known) where
  abbrev starts : List TaskStart
  starts = known.starts

  abbrev parents : List ℕ
  parents = parents_of known

  some_birth : 0 < length starts
  some_birth = slice_get_within starts 0 (root_start credit buffer) g.root

  older : (n p : ℕ) → slice_get parents n ≡ Some p → p ≤ n
  older n p there =
      let s = mapped_get (λ (x : TaskStart). x.parent) (drop 1 starts) n p there in
      let le = g.all.older n s.0 (tail_get starts n s.0 s.1) in
      let is = s.2 in omega (arith, le, is)

  -- one that is over, with what is known of it
  record Ran : Type 0 where
    pub over : TaskResult
    pub is_run : RanByItself programs over
    pub is_task : IsTask starts over.own

  abbrev key : Ran → ℕ
  key r = r.over.own.number

  rans_of : (os : List TaskResult) → Each (RanByItself programs) os → Each (λ (o : TaskResult). IsTask starts o.own) os → List Ran
  rans_of [] a b = []
  rans_of (o ∷ os) a b = record { over = o; is_run = a.0; is_task = b.0 } ∷ rans_of os a.1 b.1

  count_rans : (n : ℕ) (os : List TaskResult) (a : Each (RanByItself programs) os) (b : Each (λ (o : TaskResult). IsTask starts o.own) os) →
      count key n (rans_of os a b) ≡ count_by (λ (o : TaskResult). o.own.number == n) os
  unfolding rans_of
  count_rans n [] a b = refl
  count_rans n (o ∷ os) a b =
      sum_by-cons (λ (r : Ran). as_one (key r == n)) (record { over = o; is_run = a.0; is_task = b.0 }) (rans_of os a.1 b.1)
      ∙ ap (λ m. as_one (o.own.number == n) + m) (count_rans n os a.1 b.1)
      ∙ sym (sum_by-cons (λ (x : TaskResult). as_one (x.own.number == n)) o os)

  abbrev all_run : Each (RanByItself programs) known.over
  all_run = each_of_all (RanByItself programs) known.over g.runs

  abbrev all_tasks : Each (λ (o : TaskResult). IsTask starts o.own) known.over
  all_tasks = each_of_index (λ (o : TaskResult). IsTask starts o.own) known.over g.all.tasks

  rans : List Ran
  rans = rans_of known.over all_run all_tasks

  counts : (n : ℕ) → count key n rans ≡ count_by (λ (k : ℕ). k == n) (numbers_to (length starts))
  unfolding rans
  counts n = count_rans n known.over all_run all_tasks ∙ g.once n

  one_each : (n : ℕ) → n < length starts → count key n rans ≡ 1
  one_each n lt = counts n ∙ times_below n (length starts) lt

  some_ran : Ran
  some_ran = (split_at key rans 0 (one_each 0 some_birth)).element

  abbrev ran_at : ℕ → Ran
  ran_at n = find key some_ran rans n

  keyed : (n : ℕ) → n < length starts → key (ran_at n) ≡ n
  keyed n lt = found_key key some_ran rans n (one_each n lt)

  abbrev run_of : Ran → TaskRun
  run_of r = record {
    birth = birth_at_start r.over.own.birth;
    place = place parents older (key r);
    base = r.over.own.birth.base;
    asked = r.is_run.asked;
    r0 = r.over.r0;
    last = r.is_run.last;
  }

  abbrev task_at : ℕ → TaskRun
  task_at n = run_of (ran_at n)

  pub tasks : List TaskRun
  tasks = map task_at (numbers_to (length starts))

  long_tasks : length tasks ≡ length starts
  unfolding tasks
  long_tasks = length-map (numbers_to (length starts)) task_at ∙ long_numbers (length starts)

  task_is : (n : ℕ) (t : TaskRun) → slice_get tasks n ≡ Some t → (n < length starts) × (task_at n ≡ t)
  unfolding tasks
  task_is n t there =
      let within = slice_get_within tasks n t there in
      let lt : n < length starts = omega (arith, within, long_tasks) in
      (lt, one_some (slice_get tasks n) (task_at n) t (get_numbered task_at (length starts) n lt) there)

  -- a task of this number was started so
  birth_at : (n : ℕ) → n < length starts → slice_get starts n ≡ Some (ran_at n).over.own.birth
  birth_at n lt = ap (slice_get starts) (sym (keyed n lt)) ∙ (ran_at n).is_task.birth

  children_at : (n : ℕ) → n < length starts → children_in n starts ≡ map (handed n (ran_at n).over.own.birth.base) (taken (ran_at n).is_run.asked)
  children_at n lt =
      subst (λ (k : ℕ). children_in k starts ≡ map (handed k (ran_at n).over.own.birth.base) (taken (ran_at n).is_run.asked)) (keyed n lt)
      ((ran_at n).is_task.children ∙ (ran_at n).is_run.children)

  ran_so : (n : ℕ) (t : TaskRun) → slice_get tasks n ≡ Some t → RanSo programs t
  ran_so n t there =
      let r = (ran_at n).is_run in
      subst (RanSo programs) (task_is n t there).1 (record { program = r.program; there = r.there; alone = r.alone })

  at_top : (t : TaskRun) → slice_get tasks 0 ≡ Some t → (t.birth ≡ root_birth credit buffer) × (t.place ≡ []) × (t.base ≡ 0)
  at_top t there =
      let is = task_is 0 t there in
      let start : (ran_at 0).over.own.birth ≡ root_start credit buffer =
      one_some (slice_get starts 0) (ran_at 0).over.own.birth (root_start credit buffer) (birth_at 0 is.0) g.root in
      subst (λ (x : TaskRun). (x.birth ≡ root_birth credit buffer) × (x.place ≡ []) × (x.base ≡ 0)) is.1 (
        ap birth_at_start start,
        ap (place parents older) (keyed 0 is.0) ∙ place_root parents older,
        ap (λ (s : TaskStart). s.base) start,
      )

  child_is : (n p : ℕ) (t q : TaskRun) → slice_get parents n ≡ Some p → slice_get tasks (suc n) ≡ Some t → slice_get tasks p ≡ Some q →
      IsChildOf (children_of p (take n parents)) q t
  child_is n p t q parent there above =
      let is = task_is (suc n) t there in
      let at = task_is p q above in
      let own : TaskStart = (ran_at (suc n)).over.own.birth in
      let base : ℕ = (ran_at p).over.own.birth.base in
      let s = mapped_get (λ (x : TaskStart). x.parent) (drop 1 starts) n p parent in
      let same : s.0 ≡ own = one_some (slice_get starts (suc n)) s.0 own (tail_get starts n s.0 s.1) (birth_at (suc n) is.0) in
      let before : ℕ = children_of p (take n parents) in
      let counted : before ≡ count_by (λ (x : TaskStart). x.parent == p) (take n (drop 1 starts)) =
      ap (children_of p) (take-map (λ (x : TaskStart). x.parent) n (drop 1 starts)) ∙ children_mapped p (take n (drop 1 starts)) in
      let among : slice_get (children_in p starts) before ≡ Some s.0 =
      ap (slice_get (children_in p starts)) counted ∙ filtered_get p (drop 1 starts) n s.0 s.1 s.2 in
      let given : slice_get (map (handed p base) (taken (ran_at p).is_run.asked)) before ≡ Some own =
      ap (λ l. slice_get l before) (sym (children_at p at.0)) ∙ among ∙ ap Some same in
      let a = mapped_get (handed p base) (taken (ran_at p).is_run.asked) before own given in
      subst (λ (x : TaskRun). IsChildOf before x t) at.1 (subst (λ (x : TaskRun). IsChildOf before (task_at p) x) is.1 (record {
        request = a.0;
        asked = a.1;
        birth = ap birth_at_start (sym a.2);
        place = ap (place parents older) (keyed (suc n) is.0) ∙ place_child parents older n p parent
            ∙ ap (λ k. place parents older k ++ suc before ∷ []) (sym (keyed p at.0));
        base = ap (λ (x : TaskStart). x.base) (sym a.2);
      }))

  all_children : (n : ℕ) (t : TaskRun) → slice_get tasks n ≡ Some t → length (taken t.asked) ≡ children_of n parents
  all_children n t there =
      let is = task_is n t there in
      let base : ℕ = (ran_at n).over.own.birth.base in
      let long : length (taken (ran_at n).is_run.asked) ≡ children_of n parents =
      sym (length-map (taken (ran_at n).is_run.asked) (handed n base)) ∙ ap length (sym (children_at n is.0))
      ∙ length-filter (λ (x : TaskStart). x.parent == n) (drop 1 starts) ∙ sym (children_mapped n (drop 1 starts)) in
      subst (λ (x : TaskRun). length (taken x.asked) ≡ children_of n parents) is.1 long

  pub family : IsSpawnTree programs credit buffer parents tasks
  family = record {
    long = long_tasks ∙ tail_long starts some_birth ∙ ap suc (sym (length-map (drop 1 starts) (λ (x : TaskStart). x.parent)));
    older = older;
    ran = ran_so;
    top = at_top;
    each = child_is;
    all = all_children;
  }

  abbrev end_of : Ran → Finished
  end_of r = finished_run (run_of r)

  left_is : (r : Ran) → left_of (end_of r) ≡ remains_of r.over
  left_is r =
      let used = r.is_run.used in let bytes = r.is_run.bytes in let base = r.is_run.base in cc

  pub ended : List Finished
  ended = map end_of rans

  all_told : (os : List TaskResult) (a : Each (RanByItself programs) os) (b : Each (λ (o : TaskResult). IsTask starts o.own) os) →
      map left_of (map end_of (rans_of os a b)) ≡ map remains_of os
  unfolding rans_of
  all_told [] a b = refl
  all_told (o ∷ os) a b =
      ap (λ x. x ∷ map left_of (map end_of (rans_of os a.1 b.1))) (left_is (record { over = o; is_run = a.0; is_task = b.0 }))
      ∙ ap (λ l. remains_of o ∷ l) (all_told os a.1 b.1)

  pub told : map left_of ended ≡ map remains_of known.over
  unfolding ended rans
  told = all_told known.over all_run all_tasks

  few : (n : ℕ) → count key n rans ≤ 1
  few n = by_bound (dite (dec_lt n (length starts)) (λ lt. inl lt) (λ ge. inr ge))
    where
      by_bound : (n < length starts) ⊎ ((n < length starts) → ⊥) → count key n rans ≤ 1
      by_bound (inl lt) = let one = one_each n lt in omega (arith, one)
      by_bound (inr ge) = let none = counts n in let zero_times = times_above n (length starts) (omega (arith, ge)) in omega (arith, none, zero_times)

  pub in_numbers : IsPermutation ended (map finished_run tasks)
  unfolding ended tasks
  in_numbers =
      let order : IsPermutation rans (map ran_at (numbers_to (length starts))) =
      in_order key ran_at (length starts) rans counts (found_all key some_ran rans few) in
      let same : map end_of (map ran_at (numbers_to (length starts))) ≡ map finished_run (map task_at (numbers_to (length starts))) =
      map-map end_of ran_at (numbers_to (length starts)) ∙ sym (map-map finished_run task_at (numbers_to (length starts))) in
      subst (λ l. IsPermutation (map end_of rans) l) same (IsPermutation-map end_of rans (map ran_at (numbers_to (length starts))) order)

  -- one that is over is among those that are over
  among_all : (os : List TaskResult) (a : Each (RanByItself programs) os) (b : Each (λ (o : TaskResult). IsTask starts o.own) os) (n : ℕ) → count key n (rans_of os a b) ≡ 1 → (d : Ran) →
      Contains os (find key d (rans_of os a b) n).over
  unfolding rans_of
  among_all [] a b n c d = absurd (omega (arith, c))
  among_all (o ∷ os) a b n c d = by_test (λ one. among_all os a.1 b.1 n one d) (o.own.number == n) refl
    where
      first : Ran
      first = record { over = o; is_run = a.0; is_task = b.0 }

      later : Contains os (find key d (rans_of os a.1 b.1) n).over → Contains (o ∷ os) (find key d (rans_of os a.1 b.1) n).over
      later c = (suc c.0, (let lt = c.1 in omega (arith, lt)), c.2)

      by_test : (count key n (rans_of os a.1 b.1) ≡ 1 → Contains os (find key d (rans_of os a.1 b.1) n).over) → (t : Bool) → (o.own.number == n) ≡ t →
          Contains (o ∷ os) (cond (o.own.number == n) (record { over = o; is_run = a.0; is_task = b.0 }) (find key d (rans_of os a.1 b.1) n)).over
      by_test ih true t =
          subst (λ (x : Bool). Contains (o ∷ os) (cond x (record { over = o; is_run = a.0; is_task = b.0 }) (find key d (rans_of os a.1 b.1) n)).over) (sym t) (0, omega arith, refl)
      by_test ih false t =
          let split = sum_by-cons (λ (r : Ran). as_one (key r == n)) (record { over = o; is_run = a.0; is_task = b.0 }) (rans_of os a.1 b.1) in
          let none : as_one (o.own.number == n) ≡ 0 = ap as_one t in
          subst (λ (x : Bool). Contains (o ∷ os) (cond x (record { over = o; is_run = a.0; is_task = b.0 }) (find key d (rans_of os a.1 b.1) n)).over) (sym t)
          (later (ih (omega (arith, c, split, none))))

  pub each_told : (n : ℕ) (t : TaskRun) → slice_get tasks n ≡ Some t → (o : TaskResult)
      × Contains known.over o × (o.own.number ≡ n) × (birth_at_start o.own.birth ≡ t.birth)
      × (remains_of o ≡ left_of (finished_run t)) × (o.own.children ≡ map (handed n o.own.birth.base) (taken t.asked))
      × (o.whole ≡ none_refused t.asked)
  unfolding rans
  each_told n t there =
      let is = task_is n t there in
      let one = one_each n is.0 in
      subst (λ (x : TaskRun). (o : TaskResult) × Contains known.over o × (o.own.number ≡ n) × (birth_at_start o.own.birth ≡ x.birth) × (remains_of o ≡ left_of (finished_run x))
      × (o.own.children ≡ map (handed n o.own.birth.base) (taken x.asked)) × (o.whole ≡ none_refused x.asked)) is.1 (
        (ran_at n).over,
        among_all known.over all_run all_tasks n one some_ran,
        keyed n is.0,
        refl,
        sym (left_is (ran_at n)),
        (ran_at n).is_run.children ∙ ap (λ k. map (handed k (ran_at n).over.own.birth.base) (taken (ran_at n).is_run.asked)) (keyed n is.0),
        (ran_at n).is_run.told,
      )

pub gathers : (programs : List Program) (credit : ℕ) (buffer : List ℕ) (known : RegisterState) → IsGathered programs credit buffer known → GatheredTree programs credit buffer known
gathers programs credit buffer known g = record {
  tasks = tasks programs credit buffer known g;
  family = family programs credit buffer known g;
  ended = ended programs credit buffer known g;
  order = in_numbers programs credit buffer known g;
  told = told programs credit buffer known g;
  each = each_told programs credit buffer known g;
}
