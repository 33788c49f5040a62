-- The counts of lines, and the numbers that are held.
use Rattle.std.proofs.Common.{◌≡◌, ◌≢◌, ◌==◌, ◌<◌, ◌≤◌, ◌+◌, ◌-◌, ◌⊎◌, inl, inr, ℕ, zero, suc, Bool, true, false, List, [], ◌∷◌, ◌++◌, length, if◌then◌else◌, refl, sym, ap, subst, ◌∙◌, arith}
use Rattle.std.specs.Prelude.{slice_index, Some, None, Ok, Err, Option, Result, replicate}
use Rattle.std.proofs.Math.ListN.{get_or, set}
use Rattle.std.proofs.lemmas.List.{get_or-set_same, get_or-set_other, length-set, get_or-replicate}
use Rattle.std.proofs.lemmas.Bool.Decides.{nat_tests}
use Rattle.job_pools.specs.LineLimiting.{LimitsByLine, IsLineFull, number_line, line_limit, one_more_counted, one_fewer_counted}
use Rattle.job_pools.specs.LineCounting.{LineRuns, begun, started, refused, looked, took, took_none, count_in_line}
use Rattle.credit_book.specs.declared.book.Report.{Report}
use Rattle.credit_book.specs.declared.board.Progress.{Progress}
use Rattle.job_core.specs.Admitted.{AdmittedJob}
use Rattle.job_pools.specs.declared.line_limited_runner.LineLimitedRunner.{LineLimitedRunner}

-- ---- tests

is_same : (m n : ℕ) → m ≡ n → (m == n) ≡ true
is_same m n is = grind (arith, nat_tests)

same_is : (m n : ℕ) → (m == n) ≡ true → m ≡ n
same_is m n is = grind (arith, nat_tests)

other_is : (m n : ℕ) → (m == n) ≡ false → m ≢ n
other_is m n is = grind (arith, nat_tests)

if_cases : {A : Type 0} (P : A → Type 0) (b : Bool) (x y : A) → (b ≡ true → P x) → (b ≡ false → P y) → P (if b then x else y)
if_cases P true x y yes_it no_it = yes_it refl
if_cases P false x y yes_it no_it = no_it refl

line_below : (number : ℕ) → number_line number < 1000
line_below number = omega arith

-- ---- counts, and the numbers that they count

pub record AreCounts (counts held : List ℕ) : Type 0 where
  pub many : length counts ≡ 1000
  pub each : (line : ℕ) → line < 1000 → slice_index counts line ≡ count_in_line line held

count_of_none : AreCounts (replicate 1000 0) []
count_of_none = record { many = refl; each = λ line below. get_or-replicate 1000 line 0 0 below }

at_line : (counts : List ℕ) (line own n : ℕ) → length counts ≡ 1000 → line < 1000 → line ≡ own → slice_index (set counts line n) own ≡ n
at_line counts line own n many below is = subst (λ (k : ℕ). slice_index (set counts line n) k ≡ n) is (get_or-set_same counts line n 0 (subst (λ (k : ℕ). line < k) (sym many) below))

count_of_more : (counts held : List ℕ) (number : ℕ) → AreCounts counts held → AreCounts (one_more_counted counts (number_line number)) (number ∷ held)
count_of_more counts held number are = record {
  many = length-set counts (number_line number) (slice_index counts (number_line number) + 1) ∙ are.many;
  each = λ line below.
      if_cases (λ (k : ℕ). slice_index (one_more_counted counts (number_line number)) line ≡ k) (number_line number == line) (suc (count_in_line line held)) (count_in_line line held)
      (λ e. let is : number_line number ≡ line = same_is (number_line number) line e in
      at_line counts (number_line number) line (slice_index counts (number_line number) + 1) are.many (line_below number) is ∙ (ap (λ (k : ℕ). slice_index counts k + 1) is ∙ (ap (λ (k : ℕ). k + 1) (are.each line below) ∙ one_more (count_in_line line held))))
      (λ e. get_or-set_other counts (number_line number) line (slice_index counts (number_line number) + 1) 0 (λ same. other_is (number_line number) line e (sym same)) ∙ are.each line below);
}
  where
    one_more : (n : ℕ) → n + 1 ≡ suc n
    one_more n = omega arith

-- a number in the middle counts as one in front
count_in_front : (line number : ℕ) (front rest : List ℕ) → count_in_line line (front ++ number ∷ rest) ≡ count_in_line line (number ∷ front ++ rest)
count_in_front line number [] rest = refl
count_in_front line number (n ∷ front) rest = ap (λ (k : ℕ). if number_line n == line then suc k else k) (count_in_front line number front rest) ∙ turned (number_line n == line) (number_line number == line) (count_in_line line (front ++ rest))
  where
    turned : (a b : Bool) (k : ℕ) → (if a then suc (if b then suc k else k) else (if b then suc k else k)) ≡ (if b then suc (if a then suc k else k) else (if a then suc k else k))
    turned true true k = refl
    turned true false k = refl
    turned false true k = refl
    turned false false k = refl

count_of_fewer : (counts front rest : List ℕ) (number : ℕ) → AreCounts counts (front ++ number ∷ rest) → AreCounts (one_fewer_counted counts (number_line number)) (front ++ rest)
count_of_fewer counts front rest number are = record {
  many = length-set counts (number_line number) (slice_index counts (number_line number) - 1) ∙ are.many;
  each = λ line below.
      fewer line below (number_line number == line) refl (are.each line below ∙ count_in_front line number front rest);
}
  where
    one_less : (n : ℕ) → suc n - 1 ≡ n
    one_less n = omega arith

    fewer : (line : ℕ) → line < 1000 → (b : Bool) → (number_line number == line) ≡ b → slice_index counts line ≡ (if number_line number == line then suc (count_in_line line (front ++ rest)) else count_in_line line (front ++ rest)) → slice_index (one_fewer_counted counts (number_line number)) line ≡ count_in_line line (front ++ rest)
    fewer line below true e was =
        let is : number_line number ≡ line = same_is (number_line number) line e in
        let had : slice_index counts line ≡ suc (count_in_line line (front ++ rest)) = was ∙ ap (λ (t : Bool). if t then suc (count_in_line line (front ++ rest)) else count_in_line line (front ++ rest)) e in
        at_line counts (number_line number) line (slice_index counts (number_line number) - 1) are.many (line_below number) is ∙ (ap (λ (k : ℕ). slice_index counts k - 1) is ∙ (ap (λ (k : ℕ). k - 1) had ∙ one_less (count_in_line line (front ++ rest))))
    fewer line below false e was =
        get_or-set_other counts (number_line number) line (slice_index counts (number_line number) - 1) 0 (λ same. other_is (number_line number) line e (sym same)) ∙ (was ∙ ap (λ (t : Bool). if t then suc (count_in_line line (front ++ rest)) else count_in_line line (front ++ rest)) e)

-- ---- whole runs

module _ {R : Type 0} (starts : R → ℕ → AdmittedJob → Result (Unit {0}) ℕ → R → Type 0) (looks : R → ℕ → Progress → R → Type 0) (takes : R → Option (ℕ × Result Report ℕ) → R → Type 0) (limits : LimitsByLine) where
  pub counts_in_run : (runner : LineLimitedRunner R) (held : List ℕ) → LineRuns starts looks takes limits runner held → AreCounts runner.counts held
  counts_in_run _ _ (begun runner) = count_of_none
  counts_in_run _ _ (started old new held number job runs step) = subst (λ (c : List ℕ). AreCounts c (number ∷ held)) (sym step.1) (count_of_more old.counts held number (counts_in_run old held runs))
  counts_in_run _ _ (refused old new held number job code runs step) = subst (λ (c : List ℕ). AreCounts c held) (sym step.1) (counts_in_run old held runs)
  counts_in_run _ _ (looked old new held number told runs step) = subst (λ (c : List ℕ). AreCounts c held) (sym step.1) (counts_in_run old held runs)
  counts_in_run _ _ (took old new front rest number outcome runs step) = subst (λ (c : List ℕ). AreCounts c (front ++ rest)) (sym step.1) (count_of_fewer old.counts front rest number (counts_in_run old (front ++ number ∷ rest) runs))
  counts_in_run _ _ (took_none old new held runs step) = subst (λ (c : List ℕ). AreCounts c held) (sym step.1) (counts_in_run old held runs)

  limits_in_run : (runner : LineLimitedRunner R) (held : List ℕ) → LineRuns starts looks takes limits runner held → runner.limits ≡ limits
  limits_in_run _ _ (begun runner) = refl
  limits_in_run _ _ (started old new held number job runs step) = step.2 ∙ limits_in_run old held runs
  limits_in_run _ _ (refused old new held number job code runs step) = step.2 ∙ limits_in_run old held runs
  limits_in_run _ _ (looked old new held number told runs step) = step.2 ∙ limits_in_run old held runs
  limits_in_run _ _ (took old new front rest number outcome runs step) = step.2 ∙ limits_in_run old (front ++ number ∷ rest) runs
  limits_in_run _ _ (took_none old new held runs step) = step.2 ∙ limits_in_run old held runs

  -- of a line that isn't full fewer are held than it may
  room : (old : LineLimitedRunner R) (held : List ℕ) (number : ℕ) → LineRuns starts looks takes limits old held → (IsLineFull old.limits old.counts (number_line number) → ⊥) → 1 ≤ line_limit limits (number_line number) → suc (count_in_line (number_line number) held) ≤ line_limit limits (number_line number)
  room old held number runs free limited =
      let count : slice_index old.counts (number_line number) ≡ count_in_line (number_line number) held = (counts_in_run old held runs).each (number_line number) (line_below number) in
      let same : line_limit old.limits (number_line number) ≡ line_limit limits (number_line number) = ap (λ (l : LimitsByLine). line_limit l (number_line number)) (limits_in_run old held runs) in
      above (count_in_line (number_line number) held) (line_limit limits (number_line number)) (λ full.
      free (inl (subst (λ (k : ℕ). 1 ≤ k) (sym same) limited, subst (λ (k : ℕ). k ≤ slice_index old.counts (number_line number)) (sym same) (subst (λ (k : ℕ). line_limit limits (number_line number) ≤ k) (sym count) full))))
    where
      above : (n limit : ℕ) → (limit ≤ n → ⊥) → suc n ≤ limit
      above n limit not = omega (arith, not)

  pub held_within : (runner : LineLimitedRunner R) (held : List ℕ) (line : ℕ) → LineRuns starts looks takes limits runner held → 1 ≤ line_limit limits line → count_in_line line held ≤ line_limit limits line
  held_within _ _ line (begun runner) limited = omega arith
  held_within _ _ line (started old new held number job runs (choice, counted, same)) limited =
      if_cases (λ (k : ℕ). k ≤ line_limit limits line) (number_line number == line) (suc (count_in_line line held)) (count_in_line line held)
      (λ e. let is : number_line number ≡ line = same_is (number_line number) line e in
      subst (λ (k : ℕ). suc (count_in_line k held) ≤ line_limit limits k) is (with_room choice (subst (λ (k : ℕ). 1 ≤ line_limit limits k) (sym is) limited)))
      (λ e. held_within old held line runs limited)
    where
      with_room : (IsLineFull old.limits old.counts (number_line number) × ◌≡◌ {A = Result (Unit {0}) ℕ} (Ok tt) (Err 81) × (new.runner ≡ old.runner)) ⊎ ((IsLineFull old.limits old.counts (number_line number) → ⊥) × starts old.runner number job (Ok tt) new.runner) → 1 ≤ line_limit limits (number_line number) → suc (count_in_line (number_line number) held) ≤ line_limit limits (number_line number)
      with_room (inl full) limited = absurd (no full.1)
        where
          no : ◌≡◌ {A = Result (Unit {0}) ℕ} (Ok tt) (Err 81) → ⊥
          no e = cc
      with_room (inr free) limited = room old held number runs free.0 limited
  held_within _ _ line (refused old new held number job code runs step) limited = held_within old held line runs limited
  held_within _ _ line (looked old new held number told runs step) limited = held_within old held line runs limited
  held_within _ _ line (took old new front rest number outcome runs step) limited =
      let was : count_in_line line (front ++ number ∷ rest) ≤ line_limit limits line = held_within old (front ++ number ∷ rest) line runs limited in
      below (number_line number == line) (count_in_line line (front ++ rest)) (line_limit limits line) (subst (λ (k : ℕ). k ≤ line_limit limits line) (count_in_front line number front rest) was)
    where
      below : (b : Bool) (n limit : ℕ) → (if b then suc n else n) ≤ limit → n ≤ limit
      below true n limit le = omega (arith, le)
      below false n limit le = le
  held_within _ _ line (took_none old new held runs step) limited = held_within old held line runs limited
