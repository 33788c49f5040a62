-- Sums over live tasks and over the members behind them.
use Rattle.std.proofs.Common.{◌≡◌, ℕ, zero, suc, ◌<◌, ◌≤◌, ◌+◌, ◌-◌, List, [], ◌∷◌, ◌++◌, length, take, get_or, slice_get, refl, sym, ◌∙◌, arith, ap, sum_by, Option, Some, None}
use Rattle.std.proofs.lemmas.List.{take_more}
use Rattle.std.proofs.lemmas.List.Sums.{sum_by-append, sum_by-cons}
use Rattle.machine_model.specs.JobState as job
use Rattle.machine_model.specs.Machine.{State}
use Rattle.machine_model.specs.JobState.{JobState, Member, held_by, returned_by, spent_by, used_by}
use Rattle.job_core.specs.declared.live.Live.{Live}
use Rattle.job_core.specs.declared.totals.Totals.{Totals}
use Rattle.job_core.specs.Sums.{used_of}
use Rattle.job_core.specs.Representation.{WorldState, IsMemberOf, RepresentsJob}
use Rattle.job_core.specs.Answers.{AreTotals}

-- one more element
pub sum_by-more : (xs : List (Option Live)) (i : ℕ) (o : Option Live) → i < length xs → o ≡ get_or xs i o →
    sum_by used_of (take (i + 1) xs) ≡ sum_by used_of (take i xs) + used_of o
sum_by-more xs i o lt at =
    let more : take (i + 1) xs ≡ take i xs ++ o ∷ [] = take_more xs i o lt ∙ ap (λ (x : Option Live). take i xs ++ x ∷ []) (sym at) in
    ap (sum_by used_of) more ∙ omega (arith, sum_by-append used_of (take i xs) (o ∷ []), sum_by-cons used_of o [])

pub sum_by-take_le : (xs : List (Option Live)) (i : ℕ) → sum_by used_of (take i xs) ≤ sum_by used_of xs
sum_by-take_le xs zero = omega arith
sum_by-take_le [] (suc i) = omega arith
sum_by-take_le (x ∷ xs) (suc i) =
    omega (arith, sum_by-take_le xs i, sum_by-cons used_of x (take i xs), sum_by-cons used_of x xs)

-- what a member has used is what its live task has, or what it spent; and no more than it holds and spent
pub record Uses (m : Member) (o : Option Live) : Type 0 where
  pub used : used_by m ≡ used_of o + spent_by m
  pub within : used_of o ≤ held_by m

uses_of : (kept : WorldState) (buffer : List ℕ) (n : ℕ) (m : Member) → IsMemberOf kept buffer n m → (o : Option Live) × (slice_get kept.lives n ≡ Some o) × Uses m o
uses_of kept buffer n (job.Live t) is =
    let used : t.used ≡ is.live.credit.used = ap (λ (s : State). s.used) is.is.state in
    let held : t.held ≡ is.live.credit.held = ap (λ (s : State). s.held) is.is.state in
    (Some is.live, is.there, record { used = omega (arith, used); within = omega (arith, held, is.is.covered.affords) })
uses_of kept buffer n (job.Ended e) is = (None, is.gone, record { used = omega arith; within = omega arith })

one_live : (xs : List (Option Live)) (n : ℕ) (a b : Option Live) → slice_get xs n ≡ Some a → slice_get xs n ≡ Some b → a ≡ b
one_live xs n a b e f = cc (sym e ∙ f)

sums : (ms : List Member) (ls : List (Option Live)) → length ls ≡ length ms →
    ((n : ℕ) (m : Member) → slice_get ms n ≡ Some m → (o : Option Live) × (slice_get ls n ≡ Some o) × Uses m o) →
    (sum_by used_by ms ≡ sum_by used_of ls + sum_by spent_by ms) × (sum_by used_of ls ≤ sum_by held_by ms)
sums [] [] long each = (refl, omega arith)
sums [] (l ∷ ls) long each = absurd (omega (arith, long))
sums (m ∷ ms) [] long each = absurd (omega (arith, long))
sums (m ∷ ms) (l ∷ ls) long each =
    let first = each zero m refl in
    let same : first.0 ≡ l = one_live (l ∷ ls) zero first.0 l first.1 refl in
    let u : used_of first.0 ≡ used_of l = ap used_of same in
    let next = sums ms ls (omega (arith, long)) (λ n k e. each (suc n) k e) in (
      omega (arith, sum_by-cons used_by m ms, sum_by-cons used_of l ls, sum_by-cons spent_by m ms, first.2.used, u, next.0),
      omega (arith, sum_by-cons held_by m ms, sum_by-cons used_of l ls, first.2.within, u, next.1),
    )

pub used_sums : (kept : WorldState) (j : JobState) → RepresentsJob kept j →
    (sum_by used_by j.tasks ≡ sum_by used_of kept.lives + sum_by spent_by j.tasks) × (sum_by used_of kept.lives ≤ sum_by held_by j.tasks)
used_sums kept j behind = sums j.tasks kept.lives behind.kept_are.lives (λ n m e. uses_of kept j.buffer n m (behind.kept_are.each n m e))

-- what is held, by what was issued
pub held_is : (kept : WorldState) (j : JobState) → RepresentsJob kept j → sum_by held_by j.tasks + kept.spent + kept.returned ≡ kept.issued
held_is kept j behind = omega (arith, behind.credit, behind.kept_are.spent, behind.kept_are.returned)

pub totals_are : (kept : WorldState) (j : JobState) (lives : List (Option Live)) (used : ℕ) → RepresentsJob kept j → lives ≡ kept.lives → used ≡ sum_by used_of lives →
    let totals : Totals = record { held = kept.issued - kept.spent - kept.returned; returned = kept.returned; spent = kept.spent; used = kept.spent + used } in
    AreTotals totals j
totals_are kept j lives used behind same sum =
    let u : used ≡ sum_by used_of kept.lives = sum ∙ ap (sum_by used_of) same in
    let s = used_sums kept j behind in
    record {
      held = omega (arith, held_is kept j behind);
      returned = behind.kept_are.returned;
      spent = behind.kept_are.spent;
      used = omega (arith, u, s.0, behind.kept_are.spent);
    }

pub none_used : (o : Option Live) → ((live : Live) → o ≡ Some live → ⊥) → used_of o ≡ 0
none_used None none = refl
none_used (Some live) none = absurd (none live refl)
