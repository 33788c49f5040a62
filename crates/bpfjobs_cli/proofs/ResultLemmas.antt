-- A result and an answer, end_order.
use Rattle.std.proofs.Math.Nat.{min-eq_left, min-eq_right}
use Rattle.std.proofs.Common.{true≢false, ltb-true, ltb-false, ◌≡◌, ◌<◌, ◌≤◌, ◌⊎◌, inl, inr, ℕ, zero, suc, ◌+◌, List, [], ◌∷◌, ◌++◌, Bool, true, false, nat_lt, min, Option, Some, None, length, map, take, get_or, slice_get, replicate, refl, sym, ap, subst, ◌∙◌, arith, MatchOption}
use Rattle.std.proofs.lemmas.List.{append_assoc, append-nil, length-append, nil_from_length, take_all, take_at, take_more}
use Rattle.std.proofs.lemmas.List.Elements.{All-append, All-cons, All-nil, recursion_from_All}
use Rattle.std.proofs.lemmas.List.Sorted.{IsPermutation-sym, IsPermutation-trans, sorted_far, ranks_by, sum_by-IsPermutation}
use Rattle.std.proofs.lemmas.List.Sums.{sum_by-cons}
use Rattle.std.proofs.lemmas.Option.{slice_get-get_or, slice_get_past}
use Rattle.std.specs.List.{AllByRecursion}
use Rattle.std.specs.List.Sorted.{IsPermutation, IsSorted}
use Rattle.std.specs.Ordering.{is_lt, ordering_reverse}
use Rattle.std.specs.declared.cmp.Ordering.TheVariants.{Greater}
use Rattle.std.specs.Prelude.{◌≢◌}
use Rattle.machine_model.specs.Memory.{written}
use Rattle.reference.specs.Evaluating.{finished_of}
use Rattle.reference.specs.declared.evaluating.FinishedTask.{FinishedTask}
use Rattle.task_trees.specs.Answer.{joined_bytes, spent_in}
use Rattle.task_trees.specs.Eval.{Finished}
use Rattle.sessions.specs.declared.result_reader.ResultTask.{ResultTask}
use Rattle.bpfjobs_cli.specs.ResultChecks.{AllResultsRan, ComparesTasks, DiffersFirstAt, IsSaturated, expected_ends, given_ends}
use Rattle.bpfjobs_cli.specs.TaskSummaries.{Ascends, IsUnshared, as_one, end_order, is_same, occurrences}
use Rattle.bpfjobs_cli.specs.declared.task_summaries.TaskSummary.{TaskSummary}
use Rattle.bpfjobs_cli.specs.declared.task_summaries.UnsharedTask.{UnsharedTask}
use Rattle.bpfjobs_cli.specs.declared.task_summaries.UnsharedTask.TheVariants.{Extra, Missing}
use Rattle.bpfjobs_cli.proofs.EndLemmas.{compared_total}

-- ---- all tasks ran

pub ran_more : (tasks : List ResultTask) (i : ℕ) (d : ResultTask) → i < length tasks → AllResultsRan (take i tasks) → (get_or tasks i d).ran ≡ true → AllResultsRan (take (i + 1) tasks)
ran_more tasks i d within all ran =
    subst AllResultsRan (sym (take_more tasks i d within))
    (All-append (λ (t : ResultTask). t.ran ≡ true) (take i tasks) (get_or tasks i d ∷ []) all
    (All-cons (λ (t : ResultTask). t.ran ≡ true) (get_or tasks i d) [] ran (All-nil (λ (t : ResultTask). t.ran ≡ true))))

pub ran_all : (tasks : List ResultTask) (i : ℕ) → length tasks ≤ i → AllResultsRan (take i tasks) → AllResultsRan tasks
ran_all tasks i over all = subst AllResultsRan (take_all i tasks over) all

-- ---- the credit that the tasks spent

-- what some of the tasks spent, where these are left
pub record IsSumSoFar (tasks left : List FinishedTask) (spent : ℕ) : Type 0 where
  pub done : ℕ
  pub is : IsSaturated done spent
  pub whole : spent_in (map finished_of tasks) ≡ done + spent_in (map finished_of left)

saturated_by : (sum told : ℕ) (b : Bool) → nat_lt 18446744073709551615 sum ≡ b → told ≡ min sum 18446744073709551615 → IsSaturated sum told
saturated_by sum told true t is = let over = ltb-true 18446744073709551615 sum t in inr (is ∙ min-eq_right (omega (arith, over)), omega (arith, over))
saturated_by sum told false t is = inl (is ∙ min-eq_left (ltb-false 18446744073709551615 sum t))

saturated_more : (done spent own next : ℕ) → next < 18446744073709551616 → IsSaturated done spent → IsSaturated (spent + own) next → IsSaturated (done + own) next
saturated_more done spent own next fits (inl a) (inl b) = inl (omega (arith, a, b))
saturated_more done spent own next fits (inl a) (inr b) = let c = b.0 in let d = b.1 in inr (c, omega (arith, a, d))
saturated_more done spent own next fits (inr a) (inl b) = let c = a.0 in let d = a.1 in inr (omega (arith, b, c, fits), omega (arith, d))
saturated_more done spent own next fits (inr a) (inr b) = let c = b.0 in let d = a.1 in inr (c, omega (arith, d))

pub spent_first : (tasks left later : List FinishedTask) (f : FinishedTask) (spent next : ℕ) → next < 18446744073709551616 → IsSumSoFar tasks left spent →
    left ≡ f ∷ later → next ≡ min (spent + f.ending.spent) 18446744073709551615 → IsSumSoFar tasks later next
spent_first tasks left later f spent next fits so_far is more =
    let first : spent_in (map finished_of left) ≡ f.ending.spent + spent_in (map finished_of later) =
    ap (λ l. spent_in (map finished_of l)) is ∙ sum_by-cons (λ (g : Finished). g.ending.spent) (finished_of f) (map finished_of later) in
    let whole = so_far.whole in
    record {
      done = so_far.done + f.ending.spent;
      is = saturated_more so_far.done spent f.ending.spent next fits so_far.is (saturated_by (spent + f.ending.spent) next _ refl more);
      whole = omega (arith, first, whole);
    }

-- ---- the buffer

-- the memory with the bytes of these tasks, of which the first are put in last
abbrev pub overlaid : List ℕ → List Finished → List ℕ
overlaid memory [] = memory
overlaid memory (f ∷ fs) = written (overlaid memory fs) f.ending.base f.bytes

pub joined_overlaid : (size : ℕ) (fs : List Finished) → joined_bytes size fs ≡ overlaid (replicate size 0) fs
joined_overlaid size [] = refl
joined_overlaid size (f ∷ fs) = ap (λ m. written m f.ending.base f.bytes) (joined_overlaid size fs)

pub overlaid_last : (memory : List ℕ) (fs : List Finished) (f : Finished) → overlaid memory (fs ++ f ∷ []) ≡ overlaid (written memory f.ending.base f.bytes) fs
overlaid_last memory [] f = refl
overlaid_last memory (g ∷ gs) f = ap (λ m. written m g.ending.base g.bytes) (overlaid_last memory gs f)

-- both lists begin with the same bytes, as many as `at`, and these are left of them
pub record AreLeftFrom (given expected left right : List ℕ) (at : ℕ) : Type 0 where
  pub done : List ℕ
  pub long : length done ≡ at
  pub of_given : given ≡ done ++ left
  pub of_expected : expected ≡ done ++ right

pub one_byte_more : (given expected left right xs ys : List ℕ) (x y at : ℕ) → AreLeftFrom given expected left right at →
    left ≡ x ∷ xs → right ≡ y ∷ ys → x ≡ y → AreLeftFrom given expected xs ys (at + 1)
one_byte_more given expected left right xs ys x y at are is other same = record {
  done = are.done ++ x ∷ [];
  long = let long = are.long in let one = length-append are.done (x ∷ []) in omega (arith, long, one);
  of_given = are.of_given ∙ ap (λ l. are.done ++ l) is ∙ sym (append_assoc are.done (x ∷ []) xs);
  of_expected = are.of_expected ∙ ap (λ l. are.done ++ l) (other ∙ ap (λ z. z ∷ ys) (sym same)) ∙ sym (append_assoc are.done (x ∷ []) ys);
}

pub shorter_differs : (given expected left right : List ℕ) (at : ℕ) → AreLeftFrom given expected left right at → length left ≡ 0 →
    (length right ≡ 0 → ⊥) → DiffersFirstAt at given expected
shorter_differs given expected left [] at are none some = absurd (some refl)
shorter_differs given expected left (x ∷ xs) at are none some =
    let long = are.long in
    let is : given ≡ are.done = are.of_given ∙ ap (λ l. are.done ++ l) (nil_from_length left none) ∙ append-nil are.done in
    let count = length-append are.done (x ∷ xs) in
    let past : slice_get given at ≡ None = rw is (slice_get_past are.done at (omega (arith, long))) in
    let there : slice_get expected at ≡ Some (get_or expected at 0) =
    slice_get-get_or expected at 0 (rw are.of_expected (omega (arith, long, count))) in (
      ap (take at) are.of_given ∙ take_at are.done left at long ∙ sym (take_at are.done (x ∷ xs) at long) ∙ sym (ap (take at) are.of_expected),
      λ same. none_is_some (sym past ∙ same ∙ there),
    )
  where
    none_is_some : {n : ℕ} → None ≡ Some n → ⊥
    none_is_some same = cc

-- ---- the tasks' ends

not_greater : (s t : TaskSummary) → is_lt (end_order t s) ≡ false → end_order s t ≢ Greater
not_greater s t not greater = absurd (true≢false (ap is_lt (sym (compared_total.antisymm t s ∙ ap ordering_reverse greater)) ∙ not))

ascends_by : (ss : List TaskSummary) → ((i j : ℕ) (d : TaskSummary) → i ≤ j → j < length ss → is_lt (end_order (get_or ss j d) (get_or ss i d)) ≡ false) → Ascends ss
ascends_by [] far = tt
ascends_by (s ∷ ss) far = (
  recursion_from_All (λ t. end_order s t ≢ Greater) ss (λ k d within. not_greater s (get_or ss k d) (far 0 (suc k) d (omega arith) (omega (arith, within)))),
  ascends_by ss (λ i j d up within. far (suc i) (suc j) d (omega (arith, up)) (omega (arith, within))),
)

pub ascends : (ss : List TaskSummary) → IsSorted end_order ss → Ascends ss
ascends ss sorted = ascends_by ss (sorted_far (λ s t. is_lt (end_order s t)) (ranks_by compared_total (λ (s : TaskSummary). s)) ss sorted)

same_count : (s : TaskSummary) (xs ys : List TaskSummary) → IsPermutation xs ys → occurrences s ys ≡ occurrences s xs
same_count s xs ys same = sum_by-IsPermutation (λ (t : TaskSummary). as_one (is_same s t)) xs ys same

-- of two lists and what they are in order
pub compared_tasks : (xs ys gs es : List TaskSummary) (given : List ResultTask) (expected : List Finished) (found : Option UnsharedTask) →
    gs ≡ given_ends given → es ≡ expected_ends expected → IsPermutation gs xs → IsPermutation es ys →
    MatchOption found (xs ≡ ys) (λ u. IsUnshared xs ys u) → ComparesTasks given expected found
compared_tasks xs ys gs es given expected None g e of_given of_expected is =
    subst (λ l. IsPermutation l (expected_ends expected)) g
    (subst (IsPermutation gs) e (IsPermutation-trans gs xs es of_given (subst (λ l. IsPermutation l es) (sym is) (IsPermutation-sym es ys of_expected))))
compared_tasks xs ys gs es given expected (Some (Extra s)) g e of_given of_expected is =
    rw (sym g, sym e, sym (same_count s gs xs of_given), sym (same_count s es ys of_expected)) is
compared_tasks xs ys gs es given expected (Some (Missing s)) g e of_given of_expected is =
    rw (sym g, sym e, sym (same_count s gs xs of_given), sym (same_count s es ys of_expected)) is
