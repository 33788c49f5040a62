-- The places of the tasks are told by their parents.
use Rattle.std.proofs.Common.{◌≡◌, ℕ, zero, suc, ◌<◌, ◌+◌, inl, inr, List, [], ◌∷◌, ◌++◌, length, length-append, length-set, set, take, slice_get, slice_set, refl, sym, ◌∙◌, arith, ap, subst, Bool, true, false, ◌==◌, Option, Some, None}
use Rattle.std.specs.Prelude.{cond}
use Rattle.std.proofs.lemmas.Option.{slice_get_within}
use Rattle.std.proofs.lemmas.List.{take_all, take-append-le}
use Rattle.std.proofs.lemmas.List.Sums.{sum_by-append, sum_by-cons}
use Rattle.std.proofs.lemmas.Bool.Decides.{nat_tests}
use Rattle.machine_model.specs.Machine.{State, Program, Birth, Effect, Continues, Ends, Spawns, Calls, Traps, effect}
use Rattle.machine_model.specs.JobState.{JobState, Task, Member, Live, Ended, goes_on, ending_of, with_state, child_of, state_in, entries_of, applied, task_step, member_step, step, start}
use Rattle.task_trees.specs.Families.{place_of, children_of, AreParents, GrowBy}
use Rattle.machine_model.proofs.Places.{set_same, set_other, by_number, push_new, pushed}

-- ---- counting

abbrev as_one : Bool → ℕ
as_one b = cond b 1 0

counted : (number p : ℕ) (ps : List ℕ) → children_of number (ps ++ p ∷ []) ≡ children_of number ps + as_one (p == number)
counted number p ps = sum_by-append (λ q. cond (q == number) 1 0) ps (p ∷ []) ∙ omega (arith, sum_by-cons (λ q. cond (q == number) 1 0) p [])

pub if_equal : (p number : ℕ) (b : Bool) → (p == number) ≡ b → p ≡ number → as_one b ≡ 1
if_equal p number true t e = refl
if_equal p number false t e = absurd (grind (arith, nat_tests))

if_not : (p number : ℕ) (b : Bool) → (p == number) ≡ b → (p ≡ number → ⊥) → as_one b ≡ 0
if_not p number true t ne = let e : p ≡ number = grind (arith, nat_tests) in absurd (ne e)
if_not p number false t ne = refl

one_more : (number : ℕ) (ps : List ℕ) → children_of number (ps ++ number ∷ []) ≡ suc (children_of number ps)
one_more number ps = let one = if_equal number number (number == number) refl refl in omega (arith, counted number number ps, one)

no_more : (number p : ℕ) (ps : List ℕ) → (p ≡ number → ⊥) → children_of number (ps ++ p ∷ []) ≡ children_of number ps
no_more number p ps ne = let none_more = if_not p number (p == number) refl ne in omega (arith, counted number p ps, none_more)

no_children : (number : ℕ) (ps : List ℕ) → ((n p : ℕ) → slice_get ps n ≡ Some p → p ≡ number → ⊥) → children_of number ps ≡ 0
no_children number [] ne = refl
no_children number (p ∷ ps) ne =
    let first = if_not p number (p == number) refl (ne 0 p refl) in
    let later = no_children number ps (λ n q there. ne (suc n) q there) in
    omega (arith, sum_by-cons (λ q. cond (q == number) 1 0) p ps, first, later)

-- ---- a step

-- a member that was there, at the same place
record WasAt (tasks : List Member) (m : ℕ) (a : Member) : Type 0 where
  pub member : Member
  pub there : slice_get tasks m ≡ Some member
  pub place : place_of a ≡ place_of member

some_same : (a b : Member) → let here : Option Member = Some a in here ≡ Some b → a ≡ b
some_same a b e = cc

was_at : (tasks : List Member) (n m : ℕ) (old new a : Member) → slice_get tasks n ≡ Some old → place_of new ≡ place_of old →
    slice_get (set tasks n new) m ≡ Some a → WasAt tasks m a
was_at tasks n m old new a here place =
    by_number (λ k. slice_get (set tasks n new) k ≡ Some a → WasAt tasks k a) n m
    (λ e. let is : new ≡ a = some_same new a (sym (set_same tasks n new (slice_get_within tasks n old here)) ∙ e) in
    record { member = old; there = here; place = ap place_of (sym is) ∙ place })
    (λ ne e. record { member = a; there = sym (set_other tasks n m new ne) ∙ e; place = refl })

live_same : (t u : Task) → let here : Option Member = Some (Live t) in here ≡ Some (Live u) → t ≡ u
live_same t u e = cc

-- a live task of the next job, from the one replaced and the others
parents_set : (parents : List ℕ) (tasks : List Member) (n : ℕ) (old new : Member) → slice_get tasks n ≡ Some old → place_of new ≡ place_of old →
    ((u : Task) → new ≡ Live u → u.children ≡ children_of n parents) → AreParents parents tasks → AreParents parents (set tasks n new)
parents_set parents tasks n old new here place own are = record {
  long = length-set tasks n new ∙ are.long;
  older = are.older;
  top = λ m e. let w = was_at tasks n 0 old new m here place e in w.place ∙ are.top w.member w.there;
  each = λ i p m q at e f.
      let w = was_at tasks n (suc i) old new m here place e in let v = was_at tasks n p old new q here place f in
      w.place ∙ are.each i p w.member v.member at w.there v.there ∙ ap (λ (l : List ℕ). l ++ suc (children_of p (take i parents)) ∷ []) (sym v.place);
  children = λ m u e.
      by_number (λ k. slice_get (set tasks n new) k ≡ Some (Live u) → u.children ≡ children_of k parents) n m
      (λ at. own u (some_same new (Live u) (sym (set_same tasks n new (slice_get_within tasks n old here)) ∙ at)))
      (λ ne at. are.children m u (sym (set_other tasks n m new ne) ∙ at)) e;
}

module _ (parents : List ℕ) (tasks : List Member) (n : ℕ) (t : Task) (parent child : Task) (here : slice_get tasks n ≡ Some (Live t))
    (same : parent.place ≡ t.place) (more : parent.children ≡ suc t.children) (place : child.place ≡ t.place ++ suc t.children ∷ [])
    (fresh : child.children ≡ 0) (are : AreParents parents tasks) where
  abbrev grown : List Member
  grown = set tasks n (Live parent) ++ Live child ∷ []

  n_within : n < length tasks
  n_within = slice_get_within tasks n (Live t) here

  set_long : length (set tasks n (Live parent)) ≡ suc (length parents)
  set_long = length-set tasks n (Live parent) ∙ are.long

  -- a member of the next job with a number that was there
  was : (m : ℕ) (a : Member) → m < length tasks → slice_get grown m ≡ Some a → WasAt tasks m a
  was m a lt e = elim (pushed (set tasks n (Live parent)) m (Live child) a e) [
    | inl old ↦ was_at tasks n m (Live t) (Live parent) a here same old
    | inr new ↦ let at = new.0 in let long = set_long in let all = are.long in absurd (omega (arith, at, long, all, lt))
  ]

  parent_long : (i p : ℕ) → slice_get parents i ≡ Some p → i < length parents
  parent_long i p e = slice_get_within parents i p e

  each_grown : (i p : ℕ) (m q : Member) → slice_get (parents ++ n ∷ []) i ≡ Some p → slice_get grown (suc i) ≡ Some m → slice_get grown p ≡ Some q →
      place_of m ≡ place_of q ++ suc (children_of p (take i (parents ++ n ∷ []))) ∷ []
  each_grown i p m q at e f = elim (pushed parents i n p at) [
    | inl old ↦
        let lt = parent_long i p old in let le = are.older i p old in let all = are.long in
        let w = was (suc i) m (omega (arith, lt, all)) e in let v = was p q (omega (arith, lt, le, all)) f in
        let front : take i parents ≡ take i (parents ++ n ∷ []) = sym (take-append-le i parents (n ∷ []) (omega (arith, lt))) in
        w.place ∙ are.each i p w.member v.member old w.there v.there
        ∙ ap (λ (l : List ℕ). l ++ suc (children_of p (take i parents)) ∷ []) (sym v.place)
        ∙ ap (λ (l : List ℕ). place_of q ++ suc (children_of p l) ∷ []) front
    | inr new ↦
        let all = are.long in let within = n_within in
        let last : suc i ≡ length (set tasks n (Live parent)) = let long = set_long in let is = new.0 in omega (arith, long, is) in
        let is_child : Live child ≡ m = some_same (Live child) m
        (sym (push_new (set tasks n (Live parent)) (Live child)) ∙ ap (slice_get grown) (sym last) ∙ e) in
        let v = was n q within (ap (slice_get grown) (sym new.1) ∙ f) in
        let q_place : place_of q ≡ t.place = v.place ∙ ap place_of (some_same v.member (Live t) (sym v.there ∙ here)) in
        let front : take i (parents ++ n ∷ []) ≡ parents =
        ap (λ (k : ℕ). take k (parents ++ n ∷ [])) new.0 ∙ take-append-le (length parents) parents (n ∷ []) (omega arith) ∙ take_all (length parents) parents (omega arith) in
        let count : suc t.children ≡ suc (children_of p (take i (parents ++ n ∷ []))) =
        ap suc (are.children n t here ∙ ap (λ (k : ℕ). children_of k parents) (sym new.1) ∙ ap (children_of p) (sym front)) in
        ap place_of (sym is_child) ∙ place ∙ ap (λ (k : ℕ). t.place ++ k ∷ []) count
        ∙ ap (λ (l : List ℕ). l ++ suc (children_of p (take i (parents ++ n ∷ []))) ∷ []) (sym q_place)
  ]

  children_grown : (m : ℕ) (u : Task) → slice_get grown m ≡ Some (Live u) → u.children ≡ children_of m (parents ++ n ∷ [])
  children_grown m u e = elim (pushed (set tasks n (Live parent)) m (Live child) (Live u) e) [
    | inl old ↦
        by_number (λ k. slice_get (set tasks n (Live parent)) k ≡ Some (Live u) → u.children ≡ children_of k (parents ++ n ∷ [])) n m
        (λ at. let is : parent ≡ u = live_same parent u (sym (set_same tasks n (Live parent) n_within) ∙ at) in
        ap (λ (x : Task). x.children) (sym is) ∙ more ∙ ap suc (are.children n t here) ∙ sym (one_more n parents))
        (λ ne at. are.children m u (sym (set_other tasks n m (Live parent) ne) ∙ at) ∙ sym (no_more m n parents (λ s. ne (sym s)))) old
    | inr new ↦
        let is : child ≡ u = live_same child u (ap (λ (x : Member). let o : Option Member = Some x in o) (sym new.1)) in
        let all = are.long in let within = n_within in let long = set_long in let at = new.0 in
        let none_of : children_of m parents ≡ 0 = no_children m parents (λ i p there s.
        let lt = parent_long i p there in let le = are.older i p there in omega (arith, lt, le, s, at, long)) in
        ap (λ (x : Task). x.children) (sym is) ∙ fresh ∙ sym none_of
        ∙ sym (no_more m n parents (λ s. omega (arith, s, at, long, within, all)))
  ]

  parents_grown : AreParents (parents ++ n ∷ []) grown
  parents_grown =
      let all = are.long in let within = n_within in
      record {
        long = length-append (set tasks n (Live parent)) (Live child ∷ []) ∙ omega (arith, set_long, length-append parents (n ∷ []));
        older = λ i p at. elim (pushed parents i n p at) [
          | inl old ↦ are.older i p old
          | inr new ↦ let x = new.0 in let y = new.1 in omega (arith, x, y, all, within)
        ];
        top = λ m e. let w = was 0 m (omega (arith, all)) e in w.place ∙ are.top w.member w.there;
        each = each_grown;
        children = children_grown;
      }

-- what a step makes of the parents
record Grown (n : ℕ) (j k : JobState) (parents : List ℕ) : Type 0 where
  pub parents' : List ℕ
  pub grows : GrowBy n j k parents parents'
  pub are : AreParents parents' k.tasks

module _ (j : JobState) (n : ℕ) (t : Task) (parents : List ℕ) (here : slice_get j.tasks n ≡ Some (Live t)) (are : AreParents parents j.tasks) where
  grown_goes : (s : State) → Grown n j (goes_on j n t s) parents
  grown_goes s = record {
    parents' = parents;
    grows = inl (length-set j.tasks n (Live (with_state t s)), refl);
    are = parents_set parents j.tasks n (Live t) (Live (with_state t s)) here refl
        (λ u is. let same : with_state t s ≡ u = cc in ap (λ (x : Task). x.children) (sym same) ∙ are.children n t here) are;
  }

  abbrev over : State → ℕ → JobState
  over s r0 = record { buffer = j.buffer; tasks = slice_set j.tasks n (Ended (ending_of t s r0)) }

  grown_ends : (s : State) (r0 : ℕ) → Grown n j (over s r0) parents
  grown_ends s r0 = record {
    parents' = parents;
    grows = inl (length-set j.tasks n (Ended (ending_of t s r0)), refl);
    are = parents_set parents j.tasks n (Live t) (Ended (ending_of t s r0)) here refl (λ u is. cc) are;
  }

  abbrev spawned_job : Birth → State → JobState
  spawned_job birth taken = record {
    buffer = j.buffer;
    tasks = slice_set j.tasks n (Live (record (with_state t taken) { children = suc t.children })) ++ Live (child_of t taken birth) ∷ [];
  }

  grown_spawns : (birth : Birth) (taken : State) → Grown n j (spawned_job birth taken) parents
  grown_spawns birth taken =
      let parent : Task = record (with_state t taken) { children = suc t.children } in
      record {
        parents' = parents ++ n ∷ [];
        grows = inr (length-append (set j.tasks n (Live parent)) (Live (child_of t taken birth) ∷ []) ∙ omega (arith, length-set j.tasks n (Live parent)), refl);
        are = parents_grown parents j.tasks n t parent (child_of t taken birth) here refl refl refl refl are;
      }

  grown_applied : (refuses : Bool) (e : Effect) (k : JobState) → applied j n t refuses e ≡ Some k → Grown n j k parents
  grown_applied refuses (Continues s) k is = let e : goes_on j n t s ≡ k = cc in subst (λ (x : JobState). Grown n j x parents) e (grown_goes s)
  grown_applied refuses (Ends r0 s) k is = let e : over s r0 ≡ k = cc in subst (λ (x : JobState). Grown n j x parents) e (grown_ends s r0)
  grown_applied true (Spawns birth taken refused) k is =
      let e : goes_on j n t refused ≡ k = cc in subst (λ (x : JobState). Grown n j x parents) e (grown_goes refused)
  grown_applied false (Spawns birth taken refused) k is =
      let e : spawned_job birth taken ≡ k = cc in subst (λ (x : JobState). Grown n j x parents) e (grown_spawns birth taken)
  grown_applied refuses (Calls helper arguments caller) k is = cc
  grown_applied refuses (Traps trap) k is = cc

  grown_task : (programs : List Program) (refuses : Bool) (o : Option Program) (k : JobState) → task_step programs j n t refuses o ≡ Some k → Grown n j k parents
  grown_task programs refuses None k is = cc
  grown_task programs refuses (Some p) k is = grown_applied refuses (effect p (entries_of programs) (state_in j.buffer t)) k is

grown_same : (n : ℕ) (j : JobState) (parents : List ℕ) → AreParents parents j.tasks → Grown n j j parents
grown_same n j parents are = record { parents' = parents; grows = inl (refl, refl); are = are }

grown_member : (programs : List Program) (j : JobState) (n : ℕ) (refuses : Bool) (o : Option Member) (k : JobState) (parents : List ℕ) → slice_get j.tasks n ≡ o →
    member_step programs j n refuses o ≡ Some k → AreParents parents j.tasks → Grown n j k parents
grown_member programs j n refuses None k parents at is are =
    let e : j ≡ k = cc in subst (λ (x : JobState). Grown n j x parents) e (grown_same n j parents are)
grown_member programs j n refuses (Some (Ended e)) k parents at is are =
    let e : j ≡ k = cc in subst (λ (x : JobState). Grown n j x parents) e (grown_same n j parents are)
grown_member programs j n refuses (Some (Live t)) k parents at is are =
    grown_task j n t parents at are programs refuses (slice_get programs t.program) k is

pub grown_step : (programs : List Program) (j k : JobState) (n : ℕ) (refuses : Bool) (parents : List ℕ) → step programs j n refuses ≡ Some k →
    AreParents parents j.tasks → (parents' : List ℕ) × GrowBy n j k parents parents' × AreParents parents' k.tasks
grown_step programs j k n refuses parents is are =
    let g = grown_member programs j n refuses (slice_get j.tasks n) k parents refl is are in (g.parents', g.grows, g.are)

-- ---- the start

one_member : (x y : Member) (n : ℕ) → slice_get (x ∷ []) n ≡ Some y → x ≡ y
one_member x y zero e = some_same x y e
one_member x y (suc n) e = cc

no_parent : (n p : ℕ) → let ps : List ℕ = [] in slice_get ps n ≡ Some p → ⊥
no_parent n p e = cc

parents_start : (t : Task) → t.place ≡ [] → t.children ≡ 0 → AreParents [] (Live t ∷ [])
parents_start t place fresh = record {
  long = refl;
  older = λ n p e. absurd (no_parent n p e);
  top = λ m e. ap place_of (sym (one_member (Live t) m 0 e)) ∙ place;
  each = λ n p m q e f g. absurd (no_parent n p e);
  children = λ n u e. let same : Live t ≡ Live u = one_member (Live t) (Live u) n e in
      let is : t ≡ u = cc in ap (λ (x : Task). x.children) (sym is) ∙ fresh;
}

pub starts : (credit : ℕ) (buffer : List ℕ) → let j : JobState = start credit buffer in AreParents [] j.tasks
starts credit buffer = parents_start _ refl refl
