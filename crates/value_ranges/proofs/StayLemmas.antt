-- What a join leaves as it is.
use Rattle.std.proofs.Common.{◌≡◌, ℕ, ℤ, ap, sym, ◌∙◌, arith, refl, subst, Some, Option, ◌≤◌, ◌<◌, ◌^◌, min, max}
use Rattle.std.specs.Int.{int_min, int_max}
use Rattle.std.proofs.lemmas.Int.{ints, clamps}
use Rattle.value_ranges.specs.Interval.{Interval}
use Rattle.value_ranges.specs.Joins.{hull, span_hull, ranges_hull}
use Rattle.value_ranges.specs.Numbers.{Ranges, spanned, some_tidied, or_else}
use Rattle.value_ranges.specs.Span.{Span}
use Rattle.value_ranges.proofs.SignedLemmas.{spanned_is}

min_same : (x : ℕ) → min x x ≡ x
min_same x = omega arith

max_same : (x : ℕ) → max x x ≡ x
max_same x = omega arith

int_min_same : (z : ℤ) → int_min z z ≡ z
int_min_same z = omega (arith, ints, clamps)

int_max_same : (z : ℤ) → int_max z z ≡ z
int_max_same z = omega (arith, ints, clamps)

hull_same : (r : Interval) → hull r r ≡ r
hull_same r = rw (min_same r.lo, max_same r.hi) refl

pub span_hull_same : (p : Span) → span_hull p p ≡ p
span_hull_same p = rw (int_min_same p.lo, int_max_same p.hi) refl

ranges_hull_same : (n : Ranges) → ranges_hull n n ≡ n
ranges_hull_same n = rw (hull_same n.unsigned, span_hull_same n.signed) refl

or_same : (n h : Ranges) (o : Option Ranges) → h ≡ n → o ≡ Some n → or_else h o ≡ n
or_same n h o e f = subst (λ (p : Option Ranges). or_else h p ≡ n) (sym f) refl

pub spans_stay : (p q : Span) → p ≡ q → span_hull p q ≡ p
spans_stay p q e = subst (λ (s : Span). span_hull p s ≡ p) e (span_hull_same p)

pub ranges_stay : (a b : Ranges) → a ≡ b → a ≡ spanned a.unsigned → a.unsigned.lo ≤ a.unsigned.hi → a.unsigned.hi < 2 ^ 64 →
    or_else (ranges_hull a b) (some_tidied (ranges_hull a b)) ≡ a
ranges_stay a b e s h k = subst (λ (n : Ranges). or_else (ranges_hull a n) (some_tidied (ranges_hull a n)) ≡ a) e
    (or_same a (ranges_hull a a) (some_tidied (ranges_hull a a)) (ranges_hull_same a)
    (ap some_tidied (ranges_hull_same a) ∙ ap some_tidied s ∙ sym (spanned_is a.unsigned h k) ∙ ap Some (sym s)))
