-- Each step keeps the rule of a register of starts.
use Rattle.std.proofs.Common.{◌≡◌, ◌≢◌, ◌==◌, ◌⊎◌, inl, inr, ℕ, Bool, true, false, true≢false, List, [], ◌∷◌, ◌++◌, length, set, drop, slice_get, Some, refl, sym, ap, ◌∙◌, subst, ⊎_elim, zero, suc, ◌<◌, arith}
use Rattle.std.specs.Prelude.{cond}
use Rattle.std.specs.List.{filter}
use Rattle.std.proofs.lemmas.List.{append-nil}
use Rattle.std.proofs.lemmas.List.Elements.{filter-append}
use Rattle.std.proofs.lemmas.Option.{slice_get_within}
use Rattle.std.proofs.lemmas.Bool.Decides.{nat_tests}
use mathlib.Core.Option.{some, some-ne-none, some-injective}
use lib.ListN.{get_elem?}
use Rattle.atomic_table.specs.Table.{State, Me, Step, keeps, Allows, Splits, Joins}
use Rattle.atomic_table.proofs.Lists.{at_set, set_again}
use Rattle.task_register.specs.declared.seats.TaskStart.{TaskStart}
use Rattle.task_register.specs.declared.seats.SeatedTask.{SeatedTask}
use Rattle.task_register.specs.declared.seats.TaskResult.{TaskResult}
use Rattle.task_register.specs.declared.seats.RegisterState.{RegisterState}
use Rattle.task_register.specs.declared.seats.TaskView.{TaskView}
use Rattle.task_register.specs.Rule.{no_seated_task, fresh_task, with_one_more, children_in, IsTask, empty_register, empty_task_view, first_keeper_view, with_task, without_task, only_task, without_child, only_child, with_waiting, without_first_waiting, first_waiting, only_first, place_of_task, place_beside, place_waiting, IsHere, FitsTaskRegister, IsTaskRegister, AreOlder, with_start, with_end, BeginsJob, AddsChild, ClosesTask, AllKnown, KnowsAll}

off : false ≡ true → ⊥
off e = true≢false (sym e)

-- the rule, of a state
abbrev pub Ruling : State (Unit {0}) TaskView → Type 0
Ruling s = IsTaskRegister s.views

-- ---- lists

-- what stands in a list that is longer by one
at_end : (l : List TaskView) (a b : TaskView) (j : ℕ) → get_elem? (l ++ a ∷ []) j ≡ some b → (get_elem? l j ≡ some b)
    ⊎ ((j ≡ length l) × (a ≡ b))
at_end [] a b zero e = inr (refl, some-injective a b e)
at_end [] a b (suc j) e = absurd (some-ne-none b (sym e))
at_end (x ∷ xs) a b zero e = inl e
at_end (x ∷ xs) a b (suc j) e = later (at_end xs a b j e)
  where
    later : (get_elem? xs j ≡ some b) ⊎ ((j ≡ length xs) × (a ≡ b)) → (get_elem? xs j ≡ some b)
        ⊎ ((suc j ≡ suc (length xs)) × (a ≡ b))
    later (inl was) = inl was
    later (inr t) = inr (ap suc t.0, t.1)

within : (l : List TaskView) (j : ℕ) (b : TaskView) → get_elem? l j ≡ some b → j < length l
within [] j b e = absurd (some-ne-none b (sym e))
within (x ∷ xs) zero b e = omega arith
within (x ∷ xs) (suc j) b e = let lt = within xs j b e in omega (arith, lt)

long_set : (l : List TaskView) (i : ℕ) (a : TaskView) → length (set l i a) ≡ length l
long_set [] i a = refl
long_set (x ∷ xs) zero a = refl
long_set (x ∷ xs) (suc i) a = ap suc (long_set xs i a)

nothing : {X : Type 0} (i : ℕ) (x : X) → slice_get [] i ≡ Some x → ⊥
nothing i x e = cc

one_some : {X : Type 0} (a b : X) → Some a ≡ Some b → a ≡ b
one_some a b e = cc

longer_there : {X : Type 0} (xs : List X) (x y : X) (n : ℕ) → slice_get xs n ≡ Some y →
    slice_get (xs ++ x ∷ []) n ≡ Some y
longer_there [] x y n e = absurd (nothing n y e)
longer_there (z ∷ zs) x y zero e = e
longer_there (z ∷ zs) x y (suc n) e = longer_there zs x y n e

last_there : {X : Type 0} (xs : List X) (x : X) → slice_get (xs ++ x ∷ []) (length xs) ≡ Some x
last_there [] x = refl
last_there (z ∷ zs) x = last_there zs x

end_there : {X : Type 0} (xs : List X) (x y : X) (k : ℕ) → slice_get (xs ++ x ∷ []) k ≡ Some y →
    (slice_get xs k ≡ Some y) ⊎ (x ≡ y)
end_there [] x y zero e = inr (one_some x y e)
end_there [] x y (suc k) e = absurd (nothing k y e)
end_there (z ∷ zs) x y zero e = inl e
end_there (z ∷ zs) x y (suc k) e = end_there zs x y k e

-- ---- a function that is changed at one number

abbrev changed : (ℕ → ℕ) → ℕ → ℕ → ℕ → ℕ
changed at m c n = cond (n == m) c (at n)

same_by : (at : ℕ → ℕ) (m c n : ℕ) (b : Bool) → (n == m) ≡ b → n ≡ m → cond b c (at n) ≡ c
same_by at m c n true t e = refl
same_by at m c n false t e = absurd (grind (arith, nat_tests))

changed_there : (at : ℕ → ℕ) (m c : ℕ) → changed at m c m ≡ c
changed_there at m c = same_by at m c m (m == m) refl refl

other_by : (at : ℕ → ℕ) (m c n : ℕ) (b : Bool) → (n == m) ≡ b → n ≢ m → cond b c (at n) ≡ at n
other_by at m c n true t ne = let e : n ≡ m = grind (arith, nat_tests) in absurd (ne e)
other_by at m c n false t ne = refl

changed_other : (at : ℕ → ℕ) (m c n : ℕ) → n ≢ m → changed at m c n ≡ at n
changed_other at m c n ne = other_by at m c n (n == m) refl ne

-- ---- a task that is elsewhere

module _ (starts : List TaskStart) (at : ℕ → ℕ) (m c place : ℕ) (o : SeatedTask) where
  here_still : IsHere starts at place o → (at m ≡ place → ⊥) → IsHere starts (changed at m c) place o
  here_still h away =
      record { is_task = h.is_task; here = changed_other at m c o.number (λ e. away (ap at (sym e) ∙ h.here)) ∙ h.here }

-- a task of which another one isn't the parent, once that other one is started
module _ (starts : List TaskStart) (b : TaskStart) where
  pub born_longer : 0 < length starts → drop 1 (starts ++ b ∷ []) ≡ drop 1 starts ++ b ∷ []
  born_longer lt = by_list starts lt
    where
      by_list : (l : List TaskStart) → 0 < length l → drop 1 (l ++ b ∷ []) ≡ drop 1 l ++ b ∷ []
      by_list [] lt = absurd (omega (arith, lt))
      by_list (x ∷ xs) lt = refl

  pub children_longer : (n : ℕ) → 0 < length starts →
      children_in n (starts ++ b ∷ []) ≡ children_in n starts ++ filter (λ x. x.parent == n) (b ∷ [])
  children_longer n lt =
      ap (filter (λ x. x.parent == n)) (born_longer lt) ∙ filter-append (λ x. x.parent == n) (drop 1 starts) (b ∷ [])

  pub one_child : (n : ℕ) (t : Bool) → (b.parent == n) ≡ t → b.parent ≡ n →
      filter (λ x. x.parent == n) (b ∷ []) ≡ b ∷ []
  one_child n true t e = grind (arith, t)
  one_child n false t e = absurd (grind (arith, nat_tests))

  pub no_child : (n : ℕ) (t : Bool) → (b.parent == n) ≡ t → b.parent ≢ n → filter (λ x. x.parent == n) (b ∷ []) ≡ []
  no_child n true t ne = let e : b.parent ≡ n = grind (arith, nat_tests) in absurd (ne e)
  no_child n false t ne = grind (arith, t)

  task_still : (o : SeatedTask) → IsTask starts o → b.parent ≢ o.number → IsTask (starts ++ b ∷ []) o
  task_still o t ne =
      let lt = slice_get_within starts o.number o.birth t.birth in
      record {
        birth = longer_there starts b o.birth o.number t.birth;
        children = children_longer o.number (omega (arith, lt)) ∙ ap (λ l. children_in o.number starts ++ l)
            (no_child o.number (b.parent == o.number) refl ne)
            ∙ append-nil (children_in o.number starts) ∙ t.children;
      }

  task_bears : (o : SeatedTask) → IsTask starts o → b.parent ≡ o.number → IsTask (starts ++ b ∷ []) (with_one_more o b)
  task_bears o t e =
      let lt = slice_get_within starts o.number o.birth t.birth in
      record {
        birth = longer_there starts b o.birth o.number t.birth;
        children = children_longer o.number (omega (arith, lt)) ∙ ap (λ l. children_in o.number starts ++ l)
            (one_child o.number (b.parent == o.number) refl e)
            ∙ ap (λ l. l ++ b ∷ []) t.children;
      }

pub filter_none : (number : ℕ) (xs : List TaskStart) →
    ((n : ℕ) (x : TaskStart) → slice_get xs n ≡ Some x → x.parent ≢ number) → filter (λ x. x.parent == number) xs ≡ []
filter_none number [] ne = refl
filter_none number (x ∷ xs) ne =
    let later = filter_none number xs (λ n y there. ne (suc n) y there) in
    filter-append (λ y. y.parent == number) (x ∷ []) xs
    ∙ ap (λ l. l ++ filter (λ y. y.parent == number) xs) (no_child [] x number (x.parent == number) refl (ne 0 x refl))
    ∙ later

-- a task that was just started has no child
child_begins : (starts : List TaskStart) (b : TaskStart) → AreOlder starts →
    (0 < length starts → b.parent < length starts) →
    IsTask (starts ++ b ∷ []) (fresh_task (length starts) b)
child_begins [] b older lt = record { birth = refl; children = refl }
child_begins (x ∷ xs) b older lt = record {
  birth = last_there (x ∷ xs) b;
  children = filter_none (suc (length xs)) (xs ++ b ∷ []) (λ n y there.
      elim (end_there xs b y n there) [
        | inl was ↦ λ e. let le =
            older n y was in let below = slice_get_within xs n y was in omega (arith, le, below, e)
        | inr is ↦ λ e. let less =
            lt (omega arith) in let same : b.parent ≡ y.parent =
            ap (λ (z : TaskStart). z.parent) is in omega (arith, less, same, e)
      ]);
}

older_longer : (starts : List TaskStart) (b : TaskStart) → AreOlder starts →
    (0 < length starts → b.parent < length starts) → AreOlder (starts ++ b ∷ [])
older_longer [] b older lt k c there = absurd (nothing k c there)
older_longer (x ∷ xs) b older lt k c there =
    elim (end_cases xs b c k there) [
      | inl was ↦ older k c was
      | inr is ↦ let less =
          lt (omega arith) in let at = is.0 in let same : b.parent ≡ c.parent = ap (λ (z : TaskStart). z.parent) is.1 in
          omega (arith, less, at, same)
    ]
  where
    end_cases : (l : List TaskStart) (a c : TaskStart) (k : ℕ) → slice_get (l ++ a ∷ []) k ≡ Some c →
        (slice_get l k ≡ Some c) ⊎ ((k ≡ length l) × (a ≡ c))
    end_cases [] a c zero e = inr (refl, one_some a c e)
    end_cases [] a c (suc k) e = absurd (nothing k c e)
    end_cases (z ∷ zs) a c zero e = inl e
    end_cases (z ∷ zs) a c (suc k) e =
        elim (end_cases zs a c k e) [
          | inl was ↦ inl was
          | inr is ↦ inr (ap suc is.0, is.1)
        ]

-- ---- views

set_each : (P : ℕ → TaskView → Type 0) (views : List TaskView) (by : ℕ) (w : TaskView) →
    ((j : ℕ) (u : TaskView) → j ≢ by → get_elem? views j ≡ some u → P j u) → P by w →
    (j : ℕ) (u : TaskView) → get_elem? (set views by w) j ≡ some u → P j u
set_each P views by w others mine j u e =
    ⊎_elim
    (λ (x : (j ≡ by) × (w ≡ u)). subst (λ (y : ℕ × TaskView). P y.0 y.1) (λ i. (sym x.0 i, x.1 i)) mine)
    (λ (x : (j ≢ by) × (get_elem? views j ≡ some u)). others j u x.0 x.1)
    (at_set views by j w u e)

end_each : (P : ℕ → TaskView → Type 0) (views : List TaskView) (w : TaskView) →
    ((j : ℕ) (u : TaskView) → get_elem? views j ≡ some u → P j u) → P (length views) w →
    (j : ℕ) (u : TaskView) → get_elem? (views ++ w ∷ []) j ≡ some u → P j u
end_each P views w others mine j u e =
    ⊎_elim
    (λ (was : get_elem? views j ≡ some u). others j u was)
    (λ (x : (j ≡ length views) × (w ≡ u)). subst (λ (y : ℕ × TaskView). P y.0 y.1) (λ i. (sym x.0 i, x.1 i)) mine)
    (at_end views w u j e)

nobody_fits : (k : ℕ) (known : RegisterState) (at : ℕ → ℕ) (by : ℕ) → FitsTaskRegister k known at by empty_task_view
nobody_fits k known at by = record {
  keeping = λ e. absurd (off e);
  sitting = λ e. absurd (off e);
  bearing = λ e. absurd (off e);
  waiting = λ n o there. absurd (nothing n o there);
  apart = λ i n a b there. absurd (nothing i a there);
}

-- a seat that knows another task than the one that goes elsewhere
fits_still : (k : ℕ) (known : RegisterState) (at : ℕ → ℕ) (m c j : ℕ) (u : TaskView) → FitsTaskRegister k known at j u →
    (at m ≡ place_of_task j → ⊥) → (at m ≡ place_beside j → ⊥) →
    (at m ≡ place_waiting j → ⊥) → FitsTaskRegister k known (changed at m c) j u
fits_still k known at m c j u f a b d = record {
  keeping = f.keeping;
  sitting = λ e. here_still known.starts at m c (place_of_task j) u.task (f.sitting e) a;
  bearing = λ e. here_still known.starts at m c (place_beside j) u.child (f.bearing e) b;
  waiting = λ n o there. here_still known.starts at m c (place_waiting j) o (f.waiting n o there) d;
  apart = f.apart;
}

pub begins : IsTaskRegister (first_keeper_view ∷ [])
begins = record {
  keeper_at = 0;
  known = empty_register;
  at = λ n. 0;
  each = one;
  ended = λ k o there. absurd (nothing k o there);
  older = λ k b there. absurd (nothing (suc k) b there);
}
  where
    one : (by : ℕ) (v : TaskView) → get_elem? (first_keeper_view ∷ []) by ≡ some v →
        FitsTaskRegister 0 empty_register (λ n. 0) by v
    one zero v e =
        subst (FitsTaskRegister 0 empty_register (λ n. 0) 0) (some-injective _ _ e)
        (record {
          keeping = λ k. (refl, refl);
          sitting = λ s. absurd (off s);
          bearing = λ s. absurd (off s);
          waiting = λ n o there. absurd (nothing n o there);
          apart = λ i n a b there. absurd (nothing i a there);
        })
    one (suc by) v e = absurd (some-ne-none v (sym e))

-- the seat of a new child leaves the keeper's
pub leaves_child : (id : ℕ) (v : TaskView) → v.has_child ≡ true → Splits Ruling id v (without_child v) (only_child v)
leaves_child id v has s kept at =
    let mine = kept.each id v at in
    let new : ℕ = length (set s.views id (without_child v)) in
    let m : ℕ = v.child.number in
    let here = (mine.bearing has).here in
    let now : ℕ → ℕ = changed kept.at m (place_of_task new) in
    record {
      keeper_at = kept.keeper_at;
      known = kept.known;
      at = now;
      each = end_each (λ j u. FitsTaskRegister kept.keeper_at kept.known now j u) (set s.views id (without_child v))
          (only_child v)
          (set_each (λ j u. FitsTaskRegister kept.keeper_at kept.known now j u) s.views id (without_child v)
          (λ j u ne e. fits_still kept.keeper_at kept.known kept.at m (place_of_task new) j u (kept.each j u e)
          (λ x. omega (arith, here, x)) (λ x. ne (omega (arith, here, x))) (λ x. omega (arith, here, x)))
          (record {
            keeping = mine.keeping;
            sitting = λ e. here_still kept.known.starts kept.at m (place_of_task new) (place_of_task id) v.task
                (mine.sitting e) (λ x. omega (arith, here, x));
            bearing = λ e. absurd (off e);
            waiting = λ n o there. here_still kept.known.starts kept.at m (place_of_task new) (place_waiting id) o
                (mine.waiting n o there) (λ x. omega (arith, here, x));
            apart = mine.apart;
          }))
          (record {
            keeping = λ e. absurd (off e);
            sitting = λ e. record {
              is_task = (mine.bearing has).is_task;
              here = changed_there kept.at m (place_of_task new);
            };
            bearing = λ e. absurd (off e);
            waiting = λ n o there. absurd (nothing n o there);
            apart = λ i n a b there. absurd (nothing i a there);
          });
      ended = λ k o there. here_still kept.known.starts kept.at m (place_of_task new) 0 o.own (kept.ended k o there)
          (λ x. omega (arith, here, x));
      older = kept.older;
    }

-- the seat of the task leaves the keeper's
pub leaves_task : (id : ℕ) (v : TaskView) → v.is_task ≡ true → Splits Ruling id v (without_task v) (only_task v)
leaves_task id v has s kept at =
    let mine = kept.each id v at in
    let new : ℕ = length (set s.views id (without_task v)) in
    let m : ℕ = v.task.number in
    let here = (mine.sitting has).here in
    let now : ℕ → ℕ = changed kept.at m (place_of_task new) in
    record {
      keeper_at = kept.keeper_at;
      known = kept.known;
      at = now;
      each = end_each (λ j u. FitsTaskRegister kept.keeper_at kept.known now j u) (set s.views id (without_task v))
          (only_task v)
          (set_each (λ j u. FitsTaskRegister kept.keeper_at kept.known now j u) s.views id (without_task v)
          (λ j u ne e. fits_still kept.keeper_at kept.known kept.at m (place_of_task new) j u (kept.each j u e)
          (λ x. ne (omega (arith, here, x))) (λ x. omega (arith, here, x)) (λ x. omega (arith, here, x)))
          (record {
            keeping = mine.keeping;
            sitting = λ e. absurd (off e);
            bearing = λ e. here_still kept.known.starts kept.at m (place_of_task new) (place_beside id) v.child
                (mine.bearing e) (λ x. omega (arith, here, x));
            waiting = λ n o there. here_still kept.known.starts kept.at m (place_of_task new) (place_waiting id) o
                (mine.waiting n o there) (λ x. omega (arith, here, x));
            apart = mine.apart;
          }))
          (record {
            keeping = λ e. absurd (off e);
            sitting = λ e. record {
              is_task = (mine.sitting has).is_task;
              here = changed_there kept.at m (place_of_task new);
            };
            bearing = λ e. absurd (off e);
            waiting = λ n o there. absurd (nothing n o there);
            apart = λ i n a b there. absurd (nothing i a there);
          });
      ended = λ k o there. here_still kept.known.starts kept.at m (place_of_task new) 0 o.own (kept.ended k o there)
          (λ x. omega (arith, here, x));
      older = kept.older;
    }

-- and is taken in again
pub takes : (id : ℕ) (v : TaskView) (other : ℕ) (w : TaskView) → w.is_task ≡ true →
    Joins Ruling id v other w (with_task v w) empty_task_view
takes id v other w has s kept at apart there =
    let was : get_elem? s.views other ≡ some w =
    ⊎_elim (λ (t : (other ≡ id) × (with_task v w ≡ w)). absurd (apart t.0))
    (λ (t : (other ≢ id) × (get_elem? s.views other ≡ some w)). t.1)
    (at_set s.views id other (with_task v w) w there) in
    let theirs = kept.each other w was in
    let mine = kept.each id v at in
    let m : ℕ = w.task.number in
    let here = (theirs.sitting has).here in
    let now : ℕ → ℕ = changed kept.at m (place_of_task id) in
    record {
      keeper_at = kept.keeper_at;
      known = kept.known;
      at = now;
      each = set_each (λ j u. FitsTaskRegister kept.keeper_at kept.known now j u)
          (set s.views id (with_task v w)) other empty_task_view
          (λ j u away e. by_two s v w j u id other kept.keeper_at kept.known now e away
          (λ differs found. fits_still kept.keeper_at kept.known kept.at m (place_of_task id) j u (kept.each j u found)
          (λ x. away (omega (arith, here, x))) (λ x. omega (arith, here, x)) (λ x. omega (arith, here, x)))
          (record {
            keeping = mine.keeping;
            sitting = λ e. record {
              is_task = (theirs.sitting has).is_task;
              here = changed_there kept.at m (place_of_task id);
            };
            bearing = λ e. here_still kept.known.starts kept.at m (place_of_task id) (place_beside id) v.child
                (mine.bearing e) (λ x. omega (arith, here, x));
            waiting = λ n o there. here_still kept.known.starts kept.at m (place_of_task id) (place_waiting id) o
                (mine.waiting n o there) (λ x. omega (arith, here, x));
            apart = mine.apart;
          }))
          (nobody_fits kept.keeper_at kept.known now other);
      ended = λ k o there. here_still kept.known.starts kept.at m (place_of_task id) 0 o.own (kept.ended k o there)
          (λ x. omega (arith, here, x));
      older = kept.older;
    }
  where
    by_two : (s : State (Unit {0}) TaskView) (v w : TaskView) (j : ℕ) (u : TaskView) (id other : ℕ) (k : ℕ)
        (known : RegisterState) (now : ℕ → ℕ) →
        get_elem? (set s.views id (with_task v w)) j ≡ some u → j ≢ other →
        (j ≢ id → get_elem? s.views j ≡ some u → FitsTaskRegister k known now j u) →
        FitsTaskRegister k known now id (with_task v w) → FitsTaskRegister k known now j u
    by_two s v w j u id other k known now e away others mine =
        ⊎_elim
        (λ (x : (j ≡ id) × (with_task v w ≡ u)). subst (λ (y : ℕ × TaskView). FitsTaskRegister k known now y.0 y.1)
        (λ i. (sym x.0 i, x.1 i)) mine)
        (λ (x : (j ≢ id) × (get_elem? s.views j ≡ some u)). others x.0 x.1)
        (at_set s.views id j (with_task v w) u e)

-- what stands behind another list
end_split : (l : List SeatedTask) (a c : SeatedTask) (k : ℕ) → slice_get (l ++ a ∷ []) k ≡ Some c →
    (slice_get l k ≡ Some c) ⊎ ((k ≡ length l) × (a ≡ c))
end_split [] a c zero e = inr (refl, one_some a c e)
end_split [] a c (suc k) e = absurd (nothing k c e)
end_split (z ∷ zs) a c zero e = inl e
end_split (z ∷ zs) a c (suc k) e =
    elim (end_split zs a c k e) [
      | inl was ↦ inl was
      | inr is ↦ inr (ap suc is.0, is.1)
    ]

-- a seat of a task waits with the keeper
pub keeps_task : (id : ℕ) (v : TaskView) (other : ℕ) (w : TaskView) → w.is_task ≡ true →
    Joins Ruling id v other w (with_waiting v w) empty_task_view
keeps_task id v other w has s kept at apart there =
    let was : get_elem? s.views other ≡ some w =
    ⊎_elim (λ (t : (other ≡ id) × (with_waiting v w ≡ w)). absurd (apart t.0))
    (λ (t : (other ≢ id) × (get_elem? s.views other ≡ some w)). t.1)
    (at_set s.views id other (with_waiting v w) w there) in
    let theirs = kept.each other w was in
    let mine = kept.each id v at in
    let m : ℕ = w.task.number in
    let here = (theirs.sitting has).here in
    let now : ℕ → ℕ = changed kept.at m (place_waiting id) in
    let waits : (k : ℕ) (o : SeatedTask) → (slice_get v.waiting k ≡ Some o)
    ⊎ ((k ≡ length v.waiting) × (w.task ≡ o)) → IsHere kept.known.starts now (place_waiting id) o =
    λ k o which. elim which [
      | inl old ↦ here_still kept.known.starts kept.at m (place_waiting id) (place_waiting id) o (mine.waiting k o old)
          (λ x. omega (arith, here, x))
      | inr is ↦ subst (λ (x : SeatedTask). IsHere kept.known.starts now (place_waiting id) x) is.1
          (record { is_task = (theirs.sitting has).is_task; here = changed_there kept.at m (place_waiting id) })
    ] in
    let other_number : (k : ℕ) (o : SeatedTask) → slice_get v.waiting k ≡ Some o → o.number ≡ m → ⊥ =
    λ k o old same. (let stands = (mine.waiting k o old).here in let at_m : kept.at m ≡ place_waiting id = ap kept.at
    (sym same) ∙ stands in omega (arith, here, at_m)) in
    let two : (j k : ℕ) (a b : SeatedTask) → (slice_get v.waiting j ≡ Some a)
    ⊎ ((j ≡ length v.waiting) × (w.task ≡ a)) →
    (slice_get v.waiting k ≡ Some b) ⊎ ((k ≡ length v.waiting) × (w.task ≡ b)) → a.number ≡ b.number → j ≡ k =
    λ j k a b first second same. elim first [
      | inl x ↦ elim second [
        | inl y ↦ mine.apart j k a b x y same
        | inr y ↦ absurd (other_number j a x (same ∙ sym (ap (λ (o : SeatedTask). o.number) y.1)))
      ]
      | inr x ↦ elim second [
        | inl y ↦ absurd (other_number k b y (sym same ∙ sym (ap (λ (o : SeatedTask). o.number) x.1)))
        | inr y ↦ x.0 ∙ sym y.0
      ]
    ] in
    record {
      keeper_at = kept.keeper_at;
      known = kept.known;
      at = now;
      each = set_each (λ j u. FitsTaskRegister kept.keeper_at kept.known now j u)
          (set s.views id (with_waiting v w)) other empty_task_view
          (λ j u away e. by_keeper s v w j u id other kept.keeper_at kept.known now e away
          (λ differs found. fits_still kept.keeper_at kept.known kept.at m (place_waiting id) j u (kept.each j u found)
          (λ x. away (omega (arith, here, x))) (λ x. omega (arith, here, x)) (λ x. omega (arith, here, x)))
          (record {
            keeping = mine.keeping;
            sitting = λ e. here_still kept.known.starts kept.at m (place_waiting id) (place_of_task id) v.task
                (mine.sitting e) (λ x. apart (omega (arith, here, x)));
            bearing = λ e. here_still kept.known.starts kept.at m (place_waiting id) (place_beside id) v.child
                (mine.bearing e) (λ x. omega (arith, here, x));
            waiting = λ k o there. waits k o (end_split v.waiting w.task o k there);
            apart = λ j k a b x y. two j k a b (end_split v.waiting w.task a j x) (end_split v.waiting w.task b k y);
          }))
          (nobody_fits kept.keeper_at kept.known now other);
      ended = λ k o there. here_still kept.known.starts kept.at m (place_waiting id) 0 o.own (kept.ended k o there)
          (λ x. omega (arith, here, x));
      older = kept.older;
    }
  where
    by_keeper : (s : State (Unit {0}) TaskView) (v w : TaskView) (j : ℕ) (u : TaskView) (id other : ℕ) (k : ℕ)
        (known : RegisterState) (now : ℕ → ℕ) →
        get_elem? (set s.views id (with_waiting v w)) j ≡ some u → j ≢ other →
        (j ≢ id → get_elem? s.views j ≡ some u → FitsTaskRegister k known now j u) →
        FitsTaskRegister k known now id (with_waiting v w) → FitsTaskRegister k known now j u
    by_keeper s v w j u id other k known now e away others mine =
        ⊎_elim
        (λ (x : (j ≡ id) × (with_waiting v w ≡ u)). subst (λ (y : ℕ × TaskView). FitsTaskRegister k known now y.0 y.1)
        (λ i. (sym x.0 i, x.1 i)) mine)
        (λ (x : (j ≢ id) × (get_elem? s.views j ≡ some u)). others x.0 x.1)
        (at_set s.views id j (with_waiting v w) u e)

first_there : (l : List SeatedTask) → 0 < length l → slice_get l 0 ≡ Some (first_waiting l)
first_there [] lt = absurd (omega (arith, lt))
first_there (o ∷ os) lt = refl

rest_there : (l : List SeatedTask) (k : ℕ) (o : SeatedTask) → slice_get (drop 1 l) k ≡ Some o →
    slice_get l (suc k) ≡ Some o
rest_there [] k o e = absurd (nothing k o e)
rest_there (z ∷ zs) k o e = e

-- the seat that has waited longest leaves the keeper's
pub leaves_first : (id : ℕ) (v : TaskView) → 0 < length v.waiting →
    Splits Ruling id v (without_first_waiting v) (only_first v)
leaves_first id v more s kept at =
    let mine = kept.each id v at in
    let new : ℕ = length (set s.views id (without_first_waiting v)) in
    let first : SeatedTask = first_waiting v.waiting in
    let waits = mine.waiting 0 first (first_there v.waiting more) in
    let m : ℕ = first.number in
    let here = waits.here in
    let now : ℕ → ℕ = changed kept.at m (place_of_task new) in
    let behind : (k : ℕ) (o : SeatedTask) → slice_get (drop 1 v.waiting) k ≡ Some o → IsHere kept.known.starts now
    (place_waiting id) o =
    λ k o there.
    let stands = mine.waiting (suc k) o (rest_there v.waiting k o there) in
    record {
      is_task = stands.is_task;
      here = changed_other kept.at m (place_of_task new) o.number
          (λ e. let same = mine.apart (suc k) 0 o first (rest_there v.waiting k o there)
          (first_there v.waiting more) e in omega (arith, same)) ∙ stands.here;
    } in
    record {
      keeper_at = kept.keeper_at;
      known = kept.known;
      at = now;
      each = end_each (λ j u. FitsTaskRegister kept.keeper_at kept.known now j u)
          (set s.views id (without_first_waiting v)) (only_first v)
          (set_each (λ j u. FitsTaskRegister kept.keeper_at kept.known now j u) s.views id (without_first_waiting v)
          (λ j u ne e. fits_still kept.keeper_at kept.known kept.at m (place_of_task new) j u (kept.each j u e)
          (λ x. omega (arith, here, x)) (λ x. omega (arith, here, x)) (λ x. ne (omega (arith, here, x))))
          (record {
            keeping = mine.keeping;
            sitting = λ e. here_still kept.known.starts kept.at m (place_of_task new) (place_of_task id) v.task
                (mine.sitting e) (λ x. omega (arith, here, x));
            bearing = λ e. here_still kept.known.starts kept.at m (place_of_task new) (place_beside id) v.child
                (mine.bearing e) (λ x. omega (arith, here, x));
            waiting = behind;
            apart = λ j k a b x y same.
                let next = mine.apart (suc j) (suc k) a b (rest_there v.waiting j a x)
                (rest_there v.waiting k b y) same in omega (arith, next);
          }))
          (record {
            keeping = λ e. absurd (off e);
            sitting = λ e. record { is_task = waits.is_task; here = changed_there kept.at m (place_of_task new) };
            bearing = λ e. absurd (off e);
            waiting = λ n o there. absurd (nothing n o there);
            apart = λ i n a b there. absurd (nothing i a there);
          });
      ended = λ k o there. here_still kept.known.starts kept.at m (place_of_task new) 0 o.own (kept.ended k o there)
          (λ x. omega (arith, here, x));
      older = kept.older;
    }

none_at_all : (starts : List TaskStart) (o : SeatedTask) → starts ≡ [] → IsTask starts o → ⊥
none_at_all starts o none t =
    nothing o.number o.birth (subst (λ (l : List TaskStart). slice_get l o.number ≡ Some o.birth) none t.birth)

module _ (slots id : ℕ) (me : Me (Unit {0}) TaskView) (st : Step (Unit {0})) where
  -- the root is entered
  pub enters_root : (may : TaskStart → Type 0) (b : TaskStart) → me.0.is_keeper ≡ true → may b →
      me.0.known.starts ≡ [] →
      Allows Ruling slots id me 0 (λ n. n) (BeginsJob may st me)
  enters_root may b keep allowed none s kept homes at fits =
      let mine = kept.each id me.0 at in
      let known = mine.keeping keep in
      let empty : kept.known.starts ≡ [] = ap (λ (k : RegisterState). k.starts) (sym known.1) ∙ none in
      let now : RegisterState = with_start kept.known b in
      let own : SeatedTask = fresh_task (length me.0.known.starts) b in
      let w : TaskView = record me.0 { known = with_start me.0.known b; has_child = true; child = own } in
      let long : length me.0.known.starts ≡ length kept.known.starts =
      ap (λ (k : RegisterState). length k.starts) known.1 in
      let places : ℕ → ℕ = changed kept.at (length me.0.known.starts) (place_beside id) in
      let begun : IsTask now.starts own =
      subst (λ n. IsTask now.starts (fresh_task n b)) (sym long)
      (child_begins kept.known.starts b kept.older (λ lt. let zero_long = ap (λ (l : List TaskStart). length l) empty in
      absurd (omega (arith, lt, zero_long)))) in (
        w,
        keeps,
        tt,
        record {
          keeper_at = kept.keeper_at;
          known = now;
          at = places;
          each = set_each (λ j u. FitsTaskRegister kept.keeper_at now places j u) s.views id w
              (λ j u ne e. let f = kept.each j u e in
              record {
                keeping = λ k. absurd (ne ((f.keeping k).0 ∙ sym known.0));
                sitting = λ x. absurd (none_at_all kept.known.starts u.task empty (f.sitting x).is_task);
                bearing = λ x. absurd (none_at_all kept.known.starts u.child empty (f.bearing x).is_task);
                waiting = λ n o there. absurd (none_at_all kept.known.starts o empty (f.waiting n o there).is_task);
                apart = f.apart;
              })
              (record {
                keeping = λ k. (known.0, ap (λ (x : RegisterState). with_start x b) known.1);
                sitting = λ x. absurd (none_at_all kept.known.starts me.0.task empty (mine.sitting x).is_task);
                bearing = λ x. record {
                  is_task = begun;
                  here = changed_there kept.at (length me.0.known.starts)
                      (place_beside id);
                };
                waiting = λ n o there. absurd (none_at_all kept.known.starts o empty (mine.waiting n o there).is_task);
                apart = mine.apart;
              });
          ended = λ k o there. absurd (none_at_all kept.known.starts o.own empty (kept.ended k o there).is_task);
          older = older_longer kept.known.starts b kept.older
              (λ lt. let zero_long = ap (λ (l : List TaskStart). length l) empty in
              absurd (omega (arith, lt, zero_long)));
        },
        (b, allowed, refl),
      )

  -- a child is entered
  pub enters_child : (may : TaskStart → Type 0) (b : TaskStart) → me.0.is_keeper ≡ true → me.0.is_task ≡ true → may b →
      b.parent ≡ me.0.task.number →
      Allows Ruling slots id me 0 (λ n. n) (AddsChild may st me)
  enters_child may b keep has allowed parent s kept homes at fits =
      let mine = kept.each id me.0 at in
      let known = mine.keeping keep in
      let own_task = mine.sitting has in
      let now : RegisterState = with_start kept.known b in
      let w : TaskView =
      record me.0 {
        known = with_start me.0.known b;
        task = with_one_more me.0.task b;
        has_child = true;
        child = fresh_task (length me.0.known.starts) b;
      } in
      let long : length me.0.known.starts ≡ length kept.known.starts =
      ap (λ (k : RegisterState). length k.starts) known.1 in
      let n : ℕ = length me.0.known.starts in
      let places : ℕ → ℕ = changed kept.at n (place_beside id) in
      let inside = slice_get_within kept.known.starts me.0.task.number me.0.task.birth own_task.is_task.birth in
      let less : b.parent < length kept.known.starts = omega (arith, parent, inside) in
      let begun : IsTask now.starts (fresh_task n b) =
      subst (λ i. IsTask now.starts (fresh_task i b)) (sym long)
      (child_begins kept.known.starts b kept.older (λ lt. less)) in (
        w,
        keeps,
        tt,
        record {
          keeper_at = kept.keeper_at;
          known = now;
          at = places;
          each = set_each (λ j u. FitsTaskRegister kept.keeper_at now places j u) s.views id w
              (λ j u ne e. let f = kept.each j u e in
              record {
                keeping = λ k. absurd (ne ((f.keeping k).0 ∙ sym known.0));
                sitting = λ x. other_task kept.known.starts kept.at b me.0.task.number n id
                    (place_of_task j) u.task long parent own_task.here (f.sitting x) (λ y. ne (omega (arith, y)));
                bearing = λ x. other_task kept.known.starts kept.at b me.0.task.number n id
                    (place_beside j) u.child long parent own_task.here (f.bearing x) (λ y. omega (arith, y));
                waiting = λ i o there. other_task kept.known.starts kept.at b me.0.task.number n id
                    (place_waiting j) o long parent own_task.here (f.waiting i o there) (λ y. omega (arith, y));
                apart = f.apart;
              })
              (record {
                keeping = λ k. (known.0, ap (λ (x : RegisterState). with_start x b) known.1);
                sitting = λ x. record {
                  is_task = task_bears kept.known.starts b me.0.task own_task.is_task parent;
                  here = changed_other kept.at n (place_beside id) me.0.task.number
                      (λ e. omega (arith, e, long, inside)) ∙ own_task.here;
                };
                bearing = λ x. record { is_task = begun; here = changed_there kept.at n (place_beside id) };
                waiting = λ i o there. other_task kept.known.starts kept.at b me.0.task.number n id
                    (place_waiting id) o long parent own_task.here (mine.waiting i o there) (λ y. omega (arith, y));
                apart = mine.apart;
              });
          ended = λ k o there. other_task kept.known.starts kept.at b me.0.task.number n id 0 o.own long parent
              own_task.here (kept.ended k o there) (λ y. omega (arith, y));
          older = older_longer kept.known.starts b kept.older (λ lt. less);
        },
        (b, allowed, refl),
      )
    where
      other_task : (starts : List TaskStart) (places : ℕ → ℕ) (b : TaskStart) (p n seat place : ℕ) (o : SeatedTask) →
          n ≡ length starts → b.parent ≡ p → places p ≡ place_of_task seat →
          IsHere starts places place o → (place ≡ place_of_task seat → ⊥) →
          IsHere (starts ++ b ∷ []) (changed places n (place_beside seat)) place o
      other_task starts places b p n seat place o long parent here h away =
          let inside = slice_get_within starts o.number o.birth h.is_task.birth in
          record {
            is_task = task_still starts b o h.is_task (λ e. away (sym h.here ∙ ap places (sym e ∙ parent) ∙ here));
            here = changed_other places n (place_beside seat) o.number (λ e. omega (arith, e, long, inside)) ∙ h.here;
          }

  -- the task is over
  pub closes : (may : TaskResult → Type 0) (o : TaskResult) → me.0.is_keeper ≡ true → me.0.is_task ≡ true → may o →
      o.own ≡ me.0.task →
      Allows Ruling slots id me 0 (λ n. n) (ClosesTask may st me)
  closes may o keep has allowed is s kept homes at fits =
      let mine = kept.each id me.0 at in
      let known = mine.keeping keep in
      let own_task = mine.sitting has in
      let here = own_task.here in
      let m : ℕ = me.0.task.number in
      let now : RegisterState = with_end kept.known o in
      let w : TaskView = record me.0 { known = with_end me.0.known o; is_task = false; task = no_seated_task } in
      let places : ℕ → ℕ = changed kept.at m 0 in (
        w,
        keeps,
        tt,
        record {
          keeper_at = kept.keeper_at;
          known = now;
          at = places;
          each = set_each (λ j u. FitsTaskRegister kept.keeper_at now places j u) s.views id w
              (λ j u ne e. let f = kept.each j u e in
              record {
                keeping = λ k. absurd (ne ((f.keeping k).0 ∙ sym known.0));
                sitting = λ x. here_still kept.known.starts kept.at m 0 (place_of_task j) u.task (f.sitting x)
                    (λ y. ne (omega (arith, here, y)));
                bearing = λ x. here_still kept.known.starts kept.at m 0 (place_beside j) u.child (f.bearing x)
                    (λ y. omega (arith, here, y));
                waiting = λ n q there. here_still kept.known.starts kept.at m 0 (place_waiting j) q
                    (f.waiting n q there) (λ y. omega (arith, here, y));
                apart = f.apart;
              })
              (record {
                keeping = λ k. (known.0, ap (λ (x : RegisterState). with_end x o) known.1);
                sitting = λ x. absurd (off x);
                bearing = λ x. here_still kept.known.starts kept.at m 0 (place_beside id) me.0.child (mine.bearing x)
                    (λ y. omega (arith, here, y));
                waiting = λ n q there. here_still kept.known.starts kept.at m 0 (place_waiting id) q
                    (mine.waiting n q there) (λ y. omega (arith, here, y));
                apart = mine.apart;
              });
          ended = λ k p there. elim (end_there kept.known.over o p k there) [
            | inl was ↦ here_still kept.known.starts kept.at m 0 0 p.own (kept.ended k p was)
                (λ y. omega (arith, here, y))
            | inr same ↦ subst (λ (x : SeatedTask). IsHere kept.known.starts places 0 x)
                (sym is ∙ ap (λ (x : TaskResult). x.own) same)
                (record { is_task = own_task.is_task; here = changed_there kept.at m 0 })
          ];
          older = kept.older;
        },
        (
          o,
          allowed,
          is,
          record {
            task = subst (λ (k : RegisterState). IsTask k.starts me.0.task) (sym known.1) own_task.is_task;
            not_over = λ k p there e.
                let stands = (kept.ended k p (ap (λ (x : RegisterState). slice_get x.over k) (sym known.1)
                ∙ there)).here in
                let there_too = ap kept.at (sym e) ∙ stands in
                omega (arith, here, there_too);
            not_waiting = λ k q there e.
                let stands = (mine.waiting k q there).here in
                let there_too = ap kept.at (sym e) ∙ stands in
                omega (arith, here, there_too);
          },
          refl,
        ),
      )

  -- all is found
  pub finds : me.0.is_keeper ≡ true → Allows Ruling slots id me 0 (λ n. n) (KnowsAll st me)
  finds keep s kept homes at fits =
      let mine = kept.each id me.0 at in
      let known = mine.keeping keep in (
        me.0,
        keeps,
        tt,
        record {
          keeper_at = kept.keeper_at;
          known = kept.known;
          at = kept.at;
          each = λ j u e. kept.each j u
              (subst (λ (l : List TaskView). get_elem? l j ≡ some u) (set_again s.views id me.0 at) e);
          ended = kept.ended;
          older = kept.older;
        },
        (
          refl,
          subst (λ (k : RegisterState). AllKnown k) (sym known.1)
              (record { tasks = λ k o there. (kept.ended k o there).is_task; older = kept.older }),
        ),
      )
