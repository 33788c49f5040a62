-- Two ascending lists of tasks' ends, end_order from their beginnings on.
use Rattle.std.proofs.Common.{true≢false, eqb-true, eq-eqb, ◌≡◌, ◌<◌, ℕ, ◌+◌, List, [], ◌∷◌, ◌++◌, Bool, true, false, refl, sym, ap, subst, ◌∙◌, arith, ◌&&◌, ◌==◌, if◌then◌else◌, sum_by}
use Rattle.std.proofs.lemmas.List.Sums.{sum_by-append, sum_by-cons}
use Rattle.std.proofs.lemmas.Cmp.{then_total, on_total, nat_cmp_total}
use Rattle.std.proofs.lemmas.List.{append_assoc}
use Rattle.std.specs.Cmp.{IsTotalOrder, ranks, tied_itself}
use Rattle.std.specs.Prelude.{◌≢◌}
use Rattle.std.specs.List.{AllByRecursion}
use Rattle.std.specs.Ordering.{MatchOrdering, is_gt, is_lt, nat_cmp, on, then_cmp, ordering_reverse, ordering_then}
use Rattle.std.specs.declared.cmp.Ordering.{Ordering}
use Rattle.std.specs.declared.cmp.Ordering.TheVariants.{Less, Equal, Greater}
use Rattle.bpfjobs_cli.specs.declared.task_summaries.TaskSummary.{TaskSummary}
use Rattle.bpfjobs_cli.specs.TaskSummaries.{Ascends, as_one, end_order, is_same, occurrences}

-- Both lists begin with the same ends, and these are left of them.
pub record AreLeft (given expected left right : List TaskSummary) : Type 0 where
  pub done : List TaskSummary
  pub of_given : given ≡ done ++ left
  pub of_expected : expected ≡ done ++ right
  pub left_ascends : Ascends left
  pub right_ascends : Ascends right

pub compared_total : IsTotalOrder end_order
compared_total = then_total (on_total (λ (s : TaskSummary). s.program) nat_cmp_total) (then_total (on_total (λ (s : TaskSummary). s.r0) nat_cmp_total) (then_total (on_total (λ (s : TaskSummary). s.spent) nat_cmp_total) (on_total (λ (s : TaskSummary). s.rest) nat_cmp_total)))

-- ---- the order tells ends apart

then_equal : (r q : Ordering) → ordering_then r q ≡ Equal → (r ≡ Equal) × (q ≡ Equal)
then_equal Less q e = absurd (true≢false (ap is_lt e))
then_equal Equal q e = (refl, e)
then_equal Greater q e = absurd (true≢false (ap is_gt e))

equal_numbers : (x y : ℕ) → nat_cmp x y ≡ Equal → x ≡ y
equal_numbers x y e = subst (λ r. MatchOrdering r (x < y) (x ≡ y) (y < x)) e (ranks x y)

pub same_ends : (s t : TaskSummary) → end_order s t ≡ Equal → s ≡ t
same_ends s t e =
    let a = then_equal _ _ e in
    let b = then_equal _ _ a.1 in
    let d = then_equal _ _ b.1 in
    let program = equal_numbers s.program t.program a.0 in
    let r0 = equal_numbers s.r0 t.r0 b.0 in
    let spent = equal_numbers s.spent t.spent d.0 in
    let rest = equal_numbers s.rest t.rest d.1 in
    λ i. record { program = program i; r0 = r0 i; spent = spent i; rest = rest i }

both_true : (a b : Bool) → a && b ≡ true → (a ≡ true) × (b ≡ true)
both_true true b e = (refl, e)
both_true false b e = absurd (true≢false (sym e))

same_from_test : (s t : TaskSummary) → is_same s t ≡ true → s ≡ t
same_from_test s t e =
    let a = both_true _ _ e in
    let b = both_true _ _ a.1 in
    let d = both_true _ _ b.1 in
    let program = eqb-true s.program t.program a.0 in
    let r0 = eqb-true s.r0 t.r0 b.0 in
    let spent = eqb-true s.spent t.spent d.0 in
    let rest = eqb-true s.rest t.rest d.1 in
    λ i. record { program = program i; r0 = r0 i; spent = spent i; rest = rest i }

same_itself : (s : TaskSummary) → is_same s s ≡ true
same_itself s =
    rw (eq-eqb s.program s.program refl, eq-eqb s.r0 s.r0 refl, eq-eqb s.spent s.spent refl, eq-eqb s.rest s.rest refl) refl

told_apart : (s t : TaskSummary) (b : Bool) → is_same s t ≡ b → end_order s t ≡ Less → b ≡ false
told_apart s t false is less = refl
told_apart s t true is less =
    let level : end_order s t ≡ Equal = subst (λ u. end_order s u ≡ Equal) (same_from_test s t is) (tied_itself compared_total s) in
    absurd (true≢false (ap is_lt (sym less ∙ level)))

-- ---- counts

-- an end that is less than all of these is none of them
absent : (s : TaskSummary) (ts : List TaskSummary) → AllByRecursion (λ t. end_order s t ≡ Less) ts → occurrences s ts ≡ 0
absent s [] all = refl
absent s (t ∷ ts) all =
    let first : as_one (is_same s t) ≡ 0 = ap as_one (told_apart s t (is_same s t) refl all.0) in
    let later = absent s ts all.1 in
    let both = sum_by-cons (λ (u : TaskSummary). as_one (is_same s u)) t ts in
    omega (arith, first, later, both)

less_on : (s t u : TaskSummary) (r : Ordering) → end_order t u ≡ r → end_order s t ≡ Less → r ≢ Greater → end_order s u ≡ Less
less_on s t u Less is less most = compared_total.trans s t u less is
less_on s t u Equal is less most = subst (λ v. end_order s v ≡ Less) (same_ends t u is) less
less_on s t u Greater is less most = absurd (most refl)

less_than_all : (s t : TaskSummary) (ts : List TaskSummary) → end_order s t ≡ Less → AllByRecursion (λ u. end_order t u ≢ Greater) ts → AllByRecursion (λ u. end_order s u ≡ Less) ts
less_than_all s t [] less all = tt
less_than_all s t (u ∷ us) less all = (less_on s t u (end_order t u) refl less all.0, less_than_all s t us less all.1)

-- behind the same beginning, an end that is less than the other list's first one occurs there less often
rarer : (done xs ys : List TaskSummary) (x y : TaskSummary) → Ascends (y ∷ ys) → end_order x y ≡ Less → occurrences x (done ++ y ∷ ys) < occurrences x (done ++ x ∷ xs)
rarer done xs ys x y ascends less =
    let none = absent x (y ∷ ys) (less, less_than_all x y ys less ascends.0) in
    let short : occurrences x (done ++ y ∷ ys) ≡ occurrences x done + 0 = sum_by-append (λ (u : TaskSummary). as_one (is_same x u)) done (y ∷ ys) ∙ ap (λ n. occurrences x done + n) none in
    let once : as_one (is_same x x) ≡ 1 = ap as_one (same_itself x) in
    let first = sum_by-cons (λ (u : TaskSummary). as_one (is_same x u)) x xs in
    let long = sum_by-append (λ (u : TaskSummary). as_one (is_same x u)) done (x ∷ xs) in
    omega (arith, short, once, first, long)

pub extra_end : (given expected left right xs ys : List TaskSummary) (x y : TaskSummary) → AreLeft given expected left right →
    left ≡ x ∷ xs → right ≡ y ∷ ys → end_order x y ≡ Less → occurrences x expected < occurrences x given
extra_end given expected left right xs ys x y are is other less =
    let shorter = rarer are.done xs ys x y (subst Ascends other are.right_ascends) less in
    let g : given ≡ are.done ++ x ∷ xs = are.of_given ∙ ap (λ l. are.done ++ l) is in
    let e : expected ≡ are.done ++ y ∷ ys = are.of_expected ∙ ap (λ l. are.done ++ l) other in
    rw (g, e) shorter

pub missing_end : (given expected left right xs ys : List TaskSummary) (x y : TaskSummary) → AreLeft given expected left right →
    left ≡ x ∷ xs → right ≡ y ∷ ys → end_order x y ≡ Greater → occurrences y given < occurrences y expected
missing_end given expected left right xs ys x y are is other greater =
    let less : end_order y x ≡ Less = compared_total.antisymm y x ∙ ap ordering_reverse greater in
    let shorter = rarer are.done ys xs y x (subst Ascends is are.left_ascends) less in
    let g : given ≡ are.done ++ x ∷ xs = are.of_given ∙ ap (λ l. are.done ++ l) is in
    let e : expected ≡ are.done ++ y ∷ ys = are.of_expected ∙ ap (λ l. are.done ++ l) other in
    rw (g, e) shorter

pub one_end_more : (given expected left right xs ys : List TaskSummary) (x y : TaskSummary) → AreLeft given expected left right →
    left ≡ x ∷ xs → right ≡ y ∷ ys → end_order x y ≡ Equal → AreLeft given expected xs ys
one_end_more given expected left right xs ys x y are is other level =
    let same : y ≡ x = sym (same_ends x y level) in
    record {
      done = are.done ++ x ∷ [];
      of_given = are.of_given ∙ ap (λ l. are.done ++ l) is ∙ sym (append_assoc are.done (x ∷ []) xs);
      of_expected = are.of_expected ∙ ap (λ l. are.done ++ l) (other ∙ ap (λ z. z ∷ ys) same) ∙ sym (append_assoc are.done (x ∷ []) ys);
      left_ascends = (subst Ascends is are.left_ascends).1;
      right_ascends = (subst Ascends other are.right_ascends).1;
    }
