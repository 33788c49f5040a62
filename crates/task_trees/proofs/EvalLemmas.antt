-- What a task comes to follows from its effect, and is one list.
use Rattle.std.proofs.Common.{◌≡◌, ℕ, zero, suc, ◌+◌, List, ◌++◌, slice_get, sym, ◌∙◌, arith, ap, subst, Option, Some}
use Rattle.machine_model.specs.Machine.{Program, Effect, Continues, Ends, Spawns, Calls, Traps, effect}
use Rattle.machine_model.specs.JobState.{Task, with_state, child_of, entries_of}
use Rattle.task_trees.specs.Eval.{Finished, Comes, EvalWithin, Eval, state_with, parent_of}

pub one_program : (p q : Program) (o : Option Program) → o ≡ Some p → o ≡ Some q → p ≡ q
one_program p q o a b = cc

comes_once : (on on' : Task → List ℕ → List Finished → Type 0) →
    ((u : Task) (bytes : List ℕ) (fs gs : List Finished) → on u bytes fs → on' u bytes gs → fs ≡ gs) →
    (t : Task) (xs ys : List Finished) (e : Effect) → Comes on t xs e → Comes on' t ys e → xs ≡ ys
comes_once on on' once t xs ys (Continues next) a b = once (with_state t next) next.part xs ys a b
comes_once on on' once t xs ys (Ends r0 last) a b = a ∙ sym b
comes_once on on' once t xs ys (Spawns birth taken refused) a b =
    let own = once (parent_of t taken) taken.part a.0 b.0 a.2 b.2 in
    let child = once (child_of t taken birth) birth.bytes a.1 b.1 a.3 b.3 in
    a.4 ∙ ap (λ (l : List Finished). a.1 ++ l) own ∙ ap (λ (l : List Finished). l ++ b.0) child ∙ sym b.4
comes_once on on' once t xs ys (Calls helper arguments caller) a b = absurd a
comes_once on on' once t xs ys (Traps trap) a b = absurd a

once_within : (programs : List Program) (n m : ℕ) (t : Task) (bytes : List ℕ) (xs ys : List Finished) →
    EvalWithin programs n t bytes xs → EvalWithin programs m t bytes ys → xs ≡ ys
once_within programs zero m t bytes xs ys a b = absurd a
once_within programs (suc n) zero t bytes xs ys a b = absurd b
once_within programs (suc n) (suc m) t bytes xs ys a b =
    let same : b.0 ≡ a.0 = one_program b.0 a.0 (slice_get programs t.program) b.1 a.1 in
    comes_once (EvalWithin programs n) (EvalWithin programs m) (λ u bs c d. once_within programs n m u bs c d) t xs ys
    (effect a.0 (entries_of programs) (state_with t bytes)) a.2
    (subst (λ (p : Program). Comes (EvalWithin programs m) t ys (effect p (entries_of programs) (state_with t bytes))) same b.2)

pub eval_once : (programs : List Program) (t : Task) (bytes : List ℕ) (xs ys : List Finished) →
    Eval programs t bytes xs → Eval programs t bytes ys → xs ≡ ys
eval_once programs t bytes xs ys a b = once_within programs a.0 b.0 t bytes xs ys a.1 b.1

comes_more : (on on' : Task → List ℕ → List Finished → Type 0) →
    ((u : Task) (bytes : List ℕ) (fs : List Finished) → on u bytes fs → on' u bytes fs) →
    (t : Task) (xs : List Finished) (e : Effect) → Comes on t xs e → Comes on' t xs e
comes_more on on' more t xs (Continues next) a = more (with_state t next) next.part xs a
comes_more on on' more t xs (Ends r0 last) a = a
comes_more on on' more t xs (Spawns birth taken refused) a =
    (a.0, a.1, more (parent_of t taken) taken.part a.0 a.2, more (child_of t taken birth) birth.bytes a.1 a.3, a.4)
comes_more on on' more t xs (Calls helper arguments caller) a = a
comes_more on on' more t xs (Traps trap) a = a

one_more : (programs : List Program) (n : ℕ) (t : Task) (bytes : List ℕ) (xs : List Finished) → EvalWithin programs n t bytes xs →
    EvalWithin programs (suc n) t bytes xs
one_more programs zero t bytes xs a = absurd a
one_more programs (suc n) t bytes xs a = (
  a.0,
  a.1,
  comes_more (EvalWithin programs n) (EvalWithin programs (suc n)) (λ u bs fs b. one_more programs n u bs fs b) t xs
      (effect a.0 (entries_of programs) (state_with t bytes)) a.2,
)

many_more : (programs : List Program) (n k : ℕ) (t : Task) (bytes : List ℕ) (xs : List Finished) → EvalWithin programs n t bytes xs →
    EvalWithin programs (n + k) t bytes xs
many_more programs n zero t bytes xs a =
    let same : n ≡ n + 0 = omega arith in subst (λ (i : ℕ). EvalWithin programs i t bytes xs) same a
many_more programs n (suc k) t bytes xs a =
    let same : suc (n + k) ≡ n + suc k = omega arith in
    subst (λ (i : ℕ). EvalWithin programs i t bytes xs) same (one_more programs (n + k) t bytes xs (many_more programs n k t bytes xs a))

-- so many steps suffice for what follows an effect
bounded : (programs : List Program) (t : Task) (xs : List Finished) (e : Effect) → Comes (Eval programs) t xs e →
    (n : ℕ) × Comes (EvalWithin programs n) t xs e
bounded programs t xs (Continues next) a = a
bounded programs t xs (Ends r0 last) a = (0, a)
bounded programs t xs (Spawns birth taken refused) a =
    let n = a.2.0 in let m = a.3.0 in
    let swapped : m + n ≡ n + m = omega arith in (
      n + m,
      (
        a.0,
        a.1,
        many_more programs n m (parent_of t taken) taken.part a.0 a.2.1,
        subst (λ (i : ℕ). EvalWithin programs i (child_of t taken birth) birth.bytes a.1) swapped
            (many_more programs m n (child_of t taken birth) birth.bytes a.1 a.3.1),
        a.4,
      ),
    )
bounded programs t xs (Calls helper arguments caller) a = absurd a
bounded programs t xs (Traps trap) a = absurd a

-- what a task comes to is what follows its effect
pub eval_from : (programs : List Program) (t : Task) (bytes : List ℕ) (xs : List Finished) (p : Program) →
    slice_get programs t.program ≡ Some p → Comes (Eval programs) t xs (effect p (entries_of programs) (state_with t bytes)) →
    Eval programs t bytes xs
eval_from programs t bytes xs p is a =
    let b = bounded programs t xs (effect p (entries_of programs) (state_with t bytes)) a in (suc b.0, (p, is, b.1))

eval_to_within : (programs : List Program) (n : ℕ) (t : Task) (bytes : List ℕ) (xs : List Finished) (p : Program) →
    slice_get programs t.program ≡ Some p → EvalWithin programs n t bytes xs →
    Comes (Eval programs) t xs (effect p (entries_of programs) (state_with t bytes))
eval_to_within programs zero t bytes xs p is a = absurd a
eval_to_within programs (suc n) t bytes xs p is a =
    let same : a.0 ≡ p = one_program a.0 p (slice_get programs t.program) a.1 is in
    subst (λ (q : Program). Comes (Eval programs) t xs (effect q (entries_of programs) (state_with t bytes))) same
    (comes_more (EvalWithin programs n) (Eval programs) (λ u bs fs b. (n, b)) t xs
    (effect a.0 (entries_of programs) (state_with t bytes)) a.2)

pub eval_to : (programs : List Program) (t : Task) (bytes : List ℕ) (xs : List Finished) (p : Program) →
    slice_get programs t.program ≡ Some p → Eval programs t bytes xs →
    Comes (Eval programs) t xs (effect p (entries_of programs) (state_with t bytes))
eval_to programs t bytes xs p is a = eval_to_within programs a.0 t bytes xs p is a.1
