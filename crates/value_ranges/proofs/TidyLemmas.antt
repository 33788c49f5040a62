-- Tidy numbers stay so where they meet, and tidying gives them.
use Rattle.std.proofs.Common.{◌≡◌, ℕ, ℤ, pos, negsuc, neg_ℤ, Bool, true, false, Option, Some, None, arith, refl, sym, ap, ◌∙◌, ◌+ℤ◌, ◌-ℤ◌, ◌≤ℤ◌, ◌<ℤ◌, ◌^◌, ◌<◌, ◌≤◌, if◌then◌else◌, min, max, subst}
use Rattle.std.specs.Prelude.{nat_lt, nat_le, int_le, int_lt, ◌||◌, ◌&&◌}
use Rattle.std.specs.Int.{int_min, int_max}
use Rattle.std.proofs.lemmas.Int.{ints, clamps}
use Rattle.std.proofs.lemmas.Bool.Decides.{nat_tests}
use Rattle.machine_model.specs.Operators.{residue}
use Rattle.value_ranges.specs.Interval.{Interval, interval}
use Rattle.value_ranges.specs.Joins.{joined, ranges_hull}
use Rattle.value_ranges.specs.Numbers.{Ranges, ranges, span_of, spanned, meet, cut_signed, cut_unsigned, tidied, nonempty, some_tidied, or_else}
use Rattle.value_ranges.specs.Span.{Span}
use Rattle.value_ranges.specs.Tidy.{HasWordEnds, IsTidy}
use Rattle.value_ranges.specs.declared.abs.Abs.TheVariants.{Num}

-- ---- what is tidy is left as it is

abbrev LiesIn : Span → Span → Type 0
LiesIn p q = (q.lo ≤ℤ p.lo) × (p.hi ≤ℤ q.hi)

one_of : (s t : Bool) (p a b c : Span) → (s ≡ true → LiesIn p a) → (t ≡ true → LiesIn p b) → LiesIn p c →
    LiesIn p (if s then a else (if t then b else c))
one_of true t p a b c h k l = h refl
one_of false true p a b c h k l = k refl
one_of false false p a b c h k l = l

lies_in_span : (n : Ranges) → IsTidy n → LiesIn n.signed (span_of n.unsigned)
lies_in_span n t = one_of (nat_lt n.unsigned.hi (2 ^ 63)) (nat_le (2 ^ 63) n.unsigned.lo) n.signed _ _ _
    (λ e. t.lower_half (grind (arith, nat_tests)))
    (λ e. t.upper_half (grind (arith, nat_tests)))
    (t.ends.low, let high = t.ends.high in omega (arith, ints))

at_least_kept : (x y : ℤ) → y ≤ℤ x → int_max x y ≡ x
at_least_kept x y h = omega (arith, ints, clamps)

at_most_kept : (x y : ℤ) → x ≤ℤ y → int_min x y ≡ x
at_most_kept x y h = omega (arith, ints, clamps)

meet_kept : (p q : Span) → LiesIn p q → meet p q ≡ p
meet_kept p q h = rw (at_least_kept p.lo q.lo h.0, at_most_kept p.hi q.hi h.1) refl

cut_signed_kept : (n : Ranges) → LiesIn n.signed (span_of n.unsigned) → cut_signed n ≡ n
cut_signed_kept n h = rw (meet_kept n.signed (span_of n.unsigned) h) refl

residue_positive : (z : ℤ) → pos 0 ≤ℤ z → z <ℤ pos (2 ^ 63) → pos (residue 64 z) ≡ z
residue_positive (pos x) h k = grind (arith, ints)
residue_positive (negsuc x) h k = absurd (omega (arith, ints))

residue_negative : (z : ℤ) → z <ℤ pos 0 → neg_ℤ (pos (2 ^ 63)) ≤ℤ z → pos (residue 64 z) ≡ z +ℤ pos (2 ^ 64)
residue_negative (pos x) h k = absurd (omega (arith, ints))
residue_negative (negsuc x) h k = grind (arith, ints)

nat_max_kept : (x y : ℕ) → y ≤ x → max x y ≡ x
nat_max_kept x y h = omega arith

nat_min_kept : (x y : ℕ) → x ≤ y → min x y ≡ x
nat_min_kept x y h = omega arith

kept_either_way : (t : Bool) (m n : Ranges) → (t ≡ true → m ≡ n) → (if t then m else n) ≡ n
kept_either_way true m n h = h refl
kept_either_way false m n h = refl

has_a_sign : (s t : Bool) (X : Type 0) → (s ≡ true → X) → (t ≡ true → X) → (s || t) ≡ true → X
has_a_sign true t X h k e = h refl
has_a_sign false true X h k e = k refl
has_a_sign false false X h k e = absurd (cc)

cut_ends : (n : Ranges) (lo hi : ℕ) → lo ≤ n.unsigned.lo → n.unsigned.hi ≤ hi →
    ranges (interval (max n.unsigned.lo lo) (min n.unsigned.hi hi)) n.signed ≡ n
cut_ends n lo hi h k = rw (nat_max_kept n.unsigned.lo lo h, nat_min_kept n.unsigned.hi hi k) refl

cut_unsigned_kept : (n : Ranges) → IsTidy n → cut_unsigned n ≡ n
cut_unsigned_kept n t = kept_either_way (int_le (pos 0) n.signed.lo || int_lt n.signed.hi (pos 0)) _ n
    (has_a_sign (int_le (pos 0) n.signed.lo) (int_lt n.signed.hi (pos 0)) _
    (λ e.
    let sign : pos 0 ≤ℤ n.signed.lo = grind (arith, ints) in
    let f = t.positive sign in
    let order = t.some_signed in
    let low = residue_positive n.signed.lo sign (let high = t.ends.high in omega (arith, ints)) in
    let high = residue_positive n.signed.hi (omega (arith, ints)) t.ends.high in
    cut_ends n _ _ (omega (arith, ints, low, f.0)) (omega (arith, ints, high, f.1)))
    (λ e.
    let sign : n.signed.hi <ℤ pos 0 = grind (arith, ints) in
    let f = t.negative sign in
    let order = t.some_signed in
    let low = residue_negative n.signed.lo (omega (arith, ints)) t.ends.low in
    let high = residue_negative n.signed.hi sign (let least = t.ends.low in omega (arith, ints)) in
    cut_ends n _ _ (omega (arith, ints, low, f.0)) (omega (arith, ints, high, f.1))))

tidied_kept : (n : Ranges) → IsTidy n → tidied n ≡ n
tidied_kept n t =
    let once = cut_signed_kept n (lies_in_span n t) in
    ap (λ (m : Ranges). cut_signed (cut_unsigned m)) once ∙ ap cut_signed (cut_unsigned_kept n t) ∙ once

nonempty_kept : (n : Ranges) → n.unsigned.lo ≤ n.unsigned.hi → n.signed.lo ≤ℤ n.signed.hi → nonempty n ≡ Some n
nonempty_kept n h k = grind (arith, nat_tests, ints)

pub some_tidied_kept : (n : Ranges) → IsTidy n → some_tidied n ≡ Some n
unfolding some_tidied
some_tidied_kept n t = ap nonempty (tidied_kept n t) ∙ nonempty_kept n t.some t.some_signed

-- ---- hulls

pub hull_tidy : (a b : Ranges) → IsTidy a → IsTidy b → IsTidy (ranges_hull a b)
hull_tidy a b s t = record {
  ends = record {
    bits = let f = s.ends.bits in let g = t.ends.bits in omega arith;
    low = let f = s.ends.low in let g = t.ends.low in omega (arith, ints, clamps);
    high = let f = s.ends.high in let g = t.ends.high in omega (arith, ints, clamps);
  };
  some = let f = s.some in let g = t.some in omega arith;
  some_signed = let f = s.some_signed in let g = t.some_signed in omega (arith, ints, clamps);
  lower_half = λ h. let f = s.lower_half (omega arith) in let g = t.lower_half (omega arith) in
      (omega (arith, ints, clamps), omega (arith, ints, clamps));
  upper_half = λ h. let f = s.upper_half (omega arith) in let g = t.upper_half (omega arith) in
      (omega (arith, ints, clamps), omega (arith, ints, clamps));
  positive = λ h. let f = s.positive (omega (arith, ints, clamps)) in let g = t.positive (omega (arith, ints, clamps)) in
      (omega (arith, ints, clamps), omega (arith, ints, clamps));
  negative = λ h. let f = s.negative (omega (arith, ints, clamps)) in let g = t.negative (omega (arith, ints, clamps)) in
      (omega (arith, ints, clamps), omega (arith, ints, clamps));
}

or_kept : (n : Ranges) (o : Option Ranges) → o ≡ Some n → or_else n o ≡ n
or_kept n o e = subst (λ (p : Option Ranges). or_else n p ≡ n) (sym e) refl

pub join_hull : (a b : Ranges) → IsTidy a → IsTidy b → or_else (ranges_hull a b) (some_tidied (ranges_hull a b)) ≡ ranges_hull a b
join_hull a b s t = or_kept (ranges_hull a b) _ (some_tidied_kept (ranges_hull a b) (hull_tidy a b s t))

int_min_swap : (x y : ℤ) → int_min x y ≡ int_min y x
int_min_swap x y = omega (arith, ints, clamps)

int_max_swap : (x y : ℤ) → int_max x y ≡ int_max y x
int_max_swap x y = omega (arith, ints, clamps)

min_swap : (x y : ℕ) → min x y ≡ min y x
min_swap x y = omega arith

max_swap : (x y : ℕ) → max x y ≡ max y x
max_swap x y = omega arith

pub hull_swap : (a b : Ranges) → ranges_hull a b ≡ ranges_hull b a
hull_swap a b = rw (
  min_swap a.unsigned.lo b.unsigned.lo,
  max_swap a.unsigned.hi b.unsigned.hi,
  int_min_swap a.signed.lo b.signed.lo,
  int_max_swap a.signed.hi b.signed.hi,
) refl

pub hull_turn : (a b c : Ranges) → ranges_hull (ranges_hull a b) c ≡ ranges_hull a (ranges_hull b c)
hull_turn a b c = rw (
  min_turn a.unsigned.lo b.unsigned.lo c.unsigned.lo,
  max_turn a.unsigned.hi b.unsigned.hi c.unsigned.hi,
  int_min_turn a.signed.lo b.signed.lo c.signed.lo,
  int_max_turn a.signed.hi b.signed.hi c.signed.hi,
) refl
  where
    min_turn : (x y z : ℕ) → min (min x y) z ≡ min x (min y z)
    min_turn x y z = omega arith

    max_turn : (x y z : ℕ) → max (max x y) z ≡ max x (max y z)
    max_turn x y z = omega arith

    int_min_turn : (x y z : ℤ) → int_min (int_min x y) z ≡ int_min x (int_min y z)
    int_min_turn x y z = omega (arith, ints, clamps)

    int_max_turn : (x y z : ℤ) → int_max (int_max x y) z ≡ int_max x (int_max y z)
    int_max_turn x y z = omega (arith, ints, clamps)

pub join_turn : (a b c : Ranges) → IsTidy a → IsTidy b → IsTidy c →
    joined (joined (Num a) (Num b)) (Num c) ≡ joined (Num a) (joined (Num b) (Num c))
join_turn a b c s t u =
    let left = hull_tidy a b s t in
    let right = hull_tidy b c t u in
    ap (λ (n : Ranges). joined (Num n) (Num c)) (join_hull a b s t) ∙ ap Num (join_hull (ranges_hull a b) c left u)
    ∙ ap Num (hull_turn a b c)
    ∙ sym (ap (λ (n : Ranges). joined (Num a) (Num n)) (join_hull b c t u) ∙ ap Num (join_hull a (ranges_hull b c) s right))

pub join_swap : (a b : Ranges) → joined (Num a) (Num b) ≡ joined (Num b) (Num a)
join_swap a b = ap (λ (n : Ranges). Num (or_else n (some_tidied n))) (hull_swap a b)

-- ---- tidying

-- the numbers of a range in one half, or in both
pub spanned_tidy : (r : Interval) → r.lo ≤ r.hi → r.hi < 2 ^ 64 → IsTidy (spanned r)
spanned_tidy r h k = record {
  ends = record { bits = k; low = grind (arith, nat_tests, ints); high = grind (arith, nat_tests, ints) };
  some = h;
  some_signed = grind (arith, nat_tests, ints);
  lower_half = λ e. (grind (arith, nat_tests, ints), grind (arith, nat_tests, ints));
  upper_half = λ e. (grind (arith, nat_tests, ints), grind (arith, nat_tests, ints));
  positive = λ e. (grind (arith, nat_tests, ints), grind (arith, nat_tests, ints));
  negative = λ e. (grind (arith, nat_tests, ints), grind (arith, nat_tests, ints));
}

-- a signed range that lies in what the unsigned one tells, and has both signs
crossing_tidy : (n : Ranges) → HasWordEnds n → n.unsigned.lo ≤ n.unsigned.hi → n.signed.lo ≤ℤ n.signed.hi →
    LiesIn n.signed (span_of n.unsigned) → n.signed.lo <ℤ pos 0 → pos 0 ≤ℤ n.signed.hi → IsTidy n
crossing_tidy n w h k l p q = record {
  ends = w;
  some = h;
  some_signed = k;
  lower_half = λ e. absurd (omega (arith, ints, (lower n e l).0));
  upper_half = λ e. absurd (omega (arith, ints, w.bits, (upper n e h l).1));
  positive = λ e. absurd (omega (arith, ints));
  negative = λ e. absurd (omega (arith, ints));
}
  where
    lower : (n : Ranges) → n.unsigned.hi < 2 ^ 63 → LiesIn n.signed (span_of n.unsigned) →
        (pos n.unsigned.lo ≤ℤ n.signed.lo) × (n.signed.hi ≤ℤ pos n.unsigned.hi)
    lower n e l = (grind (arith, nat_tests, ints), grind (arith, nat_tests, ints))

    upper : (n : Ranges) → 2 ^ 63 ≤ n.unsigned.lo → n.unsigned.lo ≤ n.unsigned.hi → LiesIn n.signed (span_of n.unsigned) →
        ((pos n.unsigned.lo -ℤ pos (2 ^ 64)) ≤ℤ n.signed.lo) × (n.signed.hi ≤ℤ (pos n.unsigned.hi -ℤ pos (2 ^ 64)))
    upper n e h l = (grind (arith, nat_tests, ints), grind (arith, nat_tests, ints))

meet_inner : (p q : Span) → LiesIn q p → meet p q ≡ q
meet_inner p q h = rw (inner_low p.lo q.lo h.0, inner_high p.hi q.hi h.1) refl
  where
    inner_low : (x y : ℤ) → x ≤ℤ y → int_max x y ≡ y
    inner_low x y h = omega (arith, ints, clamps)

    inner_high : (x y : ℤ) → y ≤ℤ x → int_min x y ≡ y
    inner_high x y h = omega (arith, ints, clamps)

cut_spanned : (r : Interval) (s : Span) → LiesIn (span_of r) s → cut_signed (ranges r s) ≡ spanned r
cut_spanned r s h = rw (meet_inner s (span_of r) h) refl

-- numbers between those that read as the ends of a signed range of one sign
in_lower_half : (r : Interval) (s : Span) → r.lo ≤ r.hi → s.hi <ℤ pos (2 ^ 63) → s.lo ≤ℤ pos r.lo → pos r.hi ≤ℤ s.hi → LiesIn (span_of r) s
in_lower_half r s h q k l = (grind (arith, nat_tests, ints), grind (arith, nat_tests, ints))

in_upper_half : (r : Interval) (s : Span) → r.lo ≤ r.hi → s.hi <ℤ pos 0 → neg_ℤ (pos (2 ^ 63)) ≤ℤ s.lo →
    s.lo ≤ℤ (pos r.lo -ℤ pos (2 ^ 64)) → (pos r.hi -ℤ pos (2 ^ 64)) ≤ℤ s.hi → LiesIn (span_of r) s
in_upper_half r s h q p k l = (grind (arith, nat_tests, ints), grind (arith, nat_tests, ints))

abbrev between_readings : Interval → Span → Interval
between_readings r s = interval (max r.lo (residue 64 s.lo)) (min r.hi (residue 64 s.hi))

-- the cuts of a range to a signed range of one sign leave one range's numbers
signed_cut : (r : Interval) (s : Span) → HasWordEnds (ranges r s) → s.lo ≤ℤ s.hi → (between_readings r s).lo ≤ (between_readings r s).hi →
    (int_le (pos 0) s.lo || int_lt s.hi (pos 0)) ≡ true → cut_signed (ranges (between_readings r s) s) ≡ spanned (between_readings r s)
signed_cut r s w k h e = cut_spanned (between_readings r s) s (has_a_sign (int_le (pos 0) s.lo) (int_lt s.hi (pos 0)) _
    (λ f.
    let sign : pos 0 ≤ℤ s.lo = grind (arith, ints) in
    let end = w.high in
    let low = residue_positive s.lo sign (omega (arith, ints)) in
    let high = residue_positive s.hi (omega (arith, ints)) end in
    in_lower_half (between_readings r s) s h end (omega (arith, ints, low)) (omega (arith, ints, high)))
    (λ f.
    let sign : s.hi <ℤ pos 0 = grind (arith, ints) in
    let end = w.low in
    let low = residue_negative s.lo (omega (arith, ints)) end in
    let high = residue_negative s.hi sign (omega (arith, ints)) in
    in_upper_half (between_readings r s) s h sign end (omega (arith, ints, low)) (omega (arith, ints, high)))
    e)

abbrev IsNonempty : Ranges → Type 0
IsNonempty n = (n.unsigned.lo ≤ n.unsigned.hi) × (n.signed.lo ≤ℤ n.signed.hi)

nonempty_is : (n m : Ranges) → nonempty n ≡ Some m → (m ≡ n) × IsNonempty n
nonempty_is n m e = split (nat_le n.unsigned.lo n.unsigned.hi) (int_le n.signed.lo n.signed.hi) n m
    (λ f. grind (arith, nat_tests)) (λ f. grind (arith, ints)) e
  where
    split : (s t : Bool) (n m : Ranges) → (s ≡ true → n.unsigned.lo ≤ n.unsigned.hi) → (t ≡ true → n.signed.lo ≤ℤ n.signed.hi) →
        (if s && t then Some n else None) ≡ Some m → (m ≡ n) × IsNonempty n
    split true true n m h k e = (cc, (h refl, k refl))
    split true false n m h k e = absurd (cc)
    split false t n m h k e = absurd (cc)

first_ends : (n : Ranges) → HasWordEnds n → HasWordEnds (cut_signed n)
first_ends n w = record {
  bits = w.bits;
  low = let f = w.low in omega (arith, ints, clamps);
  high = let f = w.high in omega (arith, ints, clamps);
}

meet_lies : (p q : Span) → LiesIn (meet p q) q
meet_lies p q = (omega (arith, ints, clamps), omega (arith, ints, clamps))

meet_nonempty : (p q : Span) → (meet p q).lo ≤ℤ (meet p q).hi → p.lo ≤ℤ p.hi
meet_nonempty p q h = omega (arith, ints, clamps)

no_sign : (s : Span) → (int_le (pos 0) s.lo || int_lt s.hi (pos 0)) ≡ false → (s.lo <ℤ pos 0) × (pos 0 ≤ℤ s.hi)
no_sign s e = grind (arith, ints)

-- the second and the third cut of what the first one leaves
cuts_tidy : (t : Bool) (f m : Ranges) → HasWordEnds f → LiesIn f.signed (span_of f.unsigned) →
    (int_le (pos 0) f.signed.lo || int_lt f.signed.hi (pos 0)) ≡ t →
    nonempty (cut_signed (if t then ranges (between_readings f.unsigned f.signed) f.signed else f)) ≡ Some m → IsTidy m
cuts_tidy true f m w l e s =
    let p = nonempty_is (cut_signed (ranges (between_readings f.unsigned f.signed) f.signed)) m s in
    let order = meet_nonempty f.signed (span_of (between_readings f.unsigned f.signed)) p.1.1 in
    let cut = signed_cut f.unsigned f.signed w order p.1.0 e in
    subst IsTidy (sym (p.0 ∙ cut)) (spanned_tidy (between_readings f.unsigned f.signed) p.1.0 (let b = w.bits in omega arith))
cuts_tidy false f m w l e s =
    let cut = cut_signed_kept f l in
    let p = nonempty_is (cut_signed f) m s in
    let some : IsNonempty f = subst IsNonempty cut p.1 in
    let signs = no_sign f.signed e in
    subst IsTidy (sym (p.0 ∙ cut)) (crossing_tidy f w some.0 some.1 l signs.0 signs.1)

pub some_tidied_tidy : (n m : Ranges) → HasWordEnds n → some_tidied n ≡ Some m → IsTidy m
unfolding some_tidied
some_tidied_tidy n m w e = cuts_tidy _ (cut_signed n) m (first_ends n w) (meet_lies n.signed (span_of n.unsigned)) refl e
