-- A signed range beside the unsigned one: what was among the numbers stays among them.
use Rattle.std.proofs.Common.{◌≡◌, ℕ, ℤ, pos, negsuc, neg_ℤ, Bool, true, false, Option, Some, None, arith, refl, ◌+ℤ◌, ◌-ℤ◌, ◌≤ℤ◌, ◌<ℤ◌, ◌%◌, ◌^◌, ◌<◌, ◌≤◌, if◌then◌else◌, ◌⊎◌, inl, inr, min, max, subst}
use Rattle.std.specs.Prelude.{IfSome, nat_le, int_le, int_lt, ◌||◌, ◌&&◌}
use Rattle.std.specs.Int.{int_shr}
use Rattle.std.proofs.lemmas.Int.{ints, clamps}
use Rattle.std.proofs.lemmas.Bool.Decides.{nat_tests}
use Rattle.std.proofs.Math.Nat.{div-le_self, mod-eq_of_lt}
use Rattle.std.proofs.lemmas.Nat.{pow_pos}
use Rattle.insn_codec.specs.declared.insn.Width.{Width}
use Rattle.insn_codec.specs.declared.insn.Width.TheVariants.{W32, W64}
use Rattle.insn_codec.specs.declared.insn.AluOp.{AluOp}
use Rattle.insn_codec.specs.declared.insn.AluOp.TheVariants.{Add, Sub, Mul, Div, Sdiv, Or, And, Lsh, Rsh, Arsh, Mod, Smod, Xor}
use Rattle.machine_model.specs.Operators.{signed, residue, result_of}
use Rattle.machine_model.specs.Outcomes.{number_result}
use Rattle.value_ranges.proofs.RowLemmas.{div_mono}
use Rattle.value_ranges.specs.Interval.{Interval, interval, is_single, Within}
use Rattle.value_ranges.specs.Numbers.{Ranges, ranges, Among, span_of, spanned, meet, cut_signed, cut_unsigned, tidied, nonempty, some_span, some_tidied, or_else}
use Rattle.value_ranges.specs.SignedRows.{fitting, signed_sum, signed_difference, signed_shift, signed_row, beside}
use Rattle.value_ranges.specs.Span.{Span, Between}

-- ---- spans

pub Between-span_of : (r : Interval) (x : ℕ) → x < 2 ^ 64 → Within r x → Between (span_of r) (signed 64 x)
Between-span_of r x h k = grind (arith, nat_tests, ints)

pub Among-spanned : (r : Interval) (x : ℕ) → x < 2 ^ 64 → Within r x → Among (spanned r) x
Among-spanned r x h k = (k, Between-span_of r x h k)

Between-meet : (p q : Span) (k : ℤ) → Between p k → Between q k → Between (meet p q) k
Between-meet p q k h j = (omega (arith, ints, clamps), omega (arith, ints, clamps))

-- ---- tidying

Among-cut_signed : (n : Ranges) (x : ℕ) → x < 2 ^ 64 → Among n x → Among (cut_signed n) x
Among-cut_signed n x h k = (k.0, Between-meet n.signed (span_of n.unsigned) (signed 64 x) k.1 (Between-span_of n.unsigned x h k.0))

-- a signed reading and its number
residue-signed : (x : ℕ) → x < 2 ^ 64 → residue 64 (signed 64 x) ≡ x
residue-signed x h = grind (arith, nat_tests, ints)

abbrev HasOneSign : Span → Type 0
HasOneSign s = (pos 0 ≤ℤ s.lo) ⊎ (s.hi <ℤ pos 0)

-- readings of one sign are in the order of their numbers
residue_order : (a b : ℤ) → a ≤ℤ b → neg_ℤ (pos (2 ^ 63)) ≤ℤ a → b <ℤ pos (2 ^ 63) → (pos 0 ≤ℤ a) ⊎ (b <ℤ pos 0) → residue 64 a ≤ residue 64 b
residue_order (pos a) (pos b) h p q e = grind (arith, ints)
residue_order (pos a) (negsuc b) h p q e = absurd (omega (arith, ints))
residue_order (negsuc a) (pos b) h p q (inl e) = absurd (omega (arith, ints))
residue_order (negsuc a) (pos b) h p q (inr e) = absurd (omega (arith, ints))
residue_order (negsuc a) (negsuc b) h p q e = grind (arith, ints)

one_sign_low : (s : Span) (k : ℤ) → k ≤ℤ s.hi → HasOneSign s → (pos 0 ≤ℤ s.lo) ⊎ (k <ℤ pos 0)
one_sign_low s k h (inl e) = inl e
one_sign_low s k h (inr e) = inr (omega (arith, ints))

one_sign_high : (s : Span) (k : ℤ) → s.lo ≤ℤ k → HasOneSign s → (pos 0 ≤ℤ k) ⊎ (s.hi <ℤ pos 0)
one_sign_high s k h (inl e) = inl (omega (arith, ints))
one_sign_high s k h (inr e) = inr e

one_sign : (s : Span) → (int_le (pos 0) s.lo || int_lt s.hi (pos 0)) ≡ true → HasOneSign s
one_sign s e = grind (arith, ints)

reading_low : (x : ℕ) → x < 2 ^ 64 → neg_ℤ (pos (2 ^ 63)) ≤ℤ signed 64 x
reading_low x p = grind (arith, nat_tests, ints)

reading_high : (x : ℕ) → x < 2 ^ 64 → signed 64 x <ℤ pos (2 ^ 63)
reading_high x p = grind (arith, nat_tests, ints)

-- the ends of a signed range that was cut have 64 bits
pub record HasEnds (n : Ranges) : Type 0 where
  pub low : neg_ℤ (pos (2 ^ 63)) ≤ℤ n.signed.lo
  pub high : HasOneSign n.signed → n.signed.hi <ℤ pos (2 ^ 63)

low_end : (r : Interval) (s : Span) → neg_ℤ (pos (2 ^ 63)) ≤ℤ (meet s (span_of r)).lo
low_end r s = grind (arith, nat_tests, ints, clamps)

high_end : (r : Interval) (s : Span) (x : ℕ) → x < 2 ^ 64 → Within r x → Between (meet s (span_of r)) (signed 64 x) → HasOneSign (meet s (span_of r)) →
    (meet s (span_of r)).hi <ℤ pos (2 ^ 63)
high_end r s x h k b e = grind (arith, nat_tests, ints, clamps)

cut_ends : (n : Ranges) (x : ℕ) → x < 2 ^ 64 → Among n x → HasEnds (cut_signed n)
cut_ends n x h k = record {
  low = low_end n.unsigned n.signed;
  high = λ e. high_end n.unsigned n.signed x h k.0 (Among-cut_signed n x h k).1 e;
}

pick : (t : Bool) (m n : Ranges) (x : ℕ) → (t ≡ true → Among m x) → Among n x → Among (if t then m else n) x
pick true m n x h k = h refl
pick false m n x h k = k

Among-cut_unsigned : (n : Ranges) (x : ℕ) → x < 2 ^ 64 → HasEnds n → Among n x → Among (cut_unsigned n) x
Among-cut_unsigned n x p ends k =
    let same = residue-signed x p in
    let low : HasOneSign n.signed → residue 64 n.signed.lo ≤ residue 64 (signed 64 x) =
    λ e. residue_order _ _ k.1.0 ends.low (reading_high x p) (one_sign_low n.signed _ k.1.1 e) in
    let high : HasOneSign n.signed → residue 64 (signed 64 x) ≤ residue 64 n.signed.hi =
    λ e. residue_order _ _ k.1.1 (reading_low x p) (ends.high e) (one_sign_high n.signed _ k.1.0 e) in
    pick _ _ n x (λ e. let o = one_sign n.signed e in ((omega (arith, low o, same), omega (arith, high o, same)), k.1)) k

Among-tidied : (n : Ranges) (x : ℕ) → x < 2 ^ 64 → Among n x → Among (tidied n) x
Among-tidied n x p h =
    let first = Among-cut_signed n x p h in
    Among-cut_signed (cut_unsigned (cut_signed n)) x p (Among-cut_unsigned (cut_signed n) x p (cut_ends n x p h) first)

kept : (t : Bool) (n : Ranges) (x : ℕ) → Among n x → IfSome (if t then Some n else None) (λ m. Among m x)
kept true n x h = h
kept false n x h = tt

-- what is in both ranges is in them when they are tidied
pub Among-some_tidied : (n : Ranges) (x : ℕ) → x < 2 ^ 64 → Among n x → IfSome (some_tidied n) (λ m. Among m x)
unfolding some_tidied
Among-some_tidied n x p h =
    kept (nat_le (tidied n).unsigned.lo (tidied n).unsigned.hi && int_le (tidied n).signed.lo (tidied n).signed.hi) (tidied n) x (Among-tidied n x p h)

or_kept : (n : Ranges) (o : Option Ranges) (x : ℕ) → Among n x → IfSome o (λ m. Among m x) → Among (or_else n o) x
or_kept n None x h k = h
or_kept n (Some m) x h k = k

pub Among-or_else : (n : Ranges) (x : ℕ) → x < 2 ^ 64 → Among n x → Among (or_else n (some_tidied n)) x
Among-or_else n x p h = or_kept n (some_tidied n) x h (Among-some_tidied n x p h)

-- ---- the code tells an empty range at once

abbrev NoSpan : Option Span → Type 0
NoSpan o = o ≡ None

abbrev NoRanges : Option Ranges → Type 0
NoRanges o = o ≡ None

cut_kept : (t u : Bool) (r : Interval) (p s : Span) → t ≡ true → Some s ≡ (if u then Some p else None) → Some (ranges r s) ≡ (if t && u then Some (ranges r p) else None)
cut_kept true true r p s h e = cc
cut_kept true false r p s h e = absurd (cc)
cut_kept false u r p s h e = absurd (cc)

cut_left : (t u : Bool) (r : Interval) (p : Span) → NoSpan (if u then Some p else None) → NoRanges (if t && u then Some (ranges r p) else None)
cut_left t true r p e = absurd (cc)
cut_left true false r p e = refl
cut_left false false r p e = refl

pub cut_some : (n : Ranges) (s : Span) → n.unsigned.lo ≤ n.unsigned.hi → Some s ≡ some_span (meet n.signed (span_of n.unsigned)) →
    Some (ranges n.unsigned s) ≡ nonempty (cut_signed n)
cut_some n s h e = cut_kept (nat_le n.unsigned.lo n.unsigned.hi) _ n.unsigned (meet n.signed (span_of n.unsigned)) s (grind (arith, nat_tests)) e

pub cut_none : (n : Ranges) → NoSpan (some_span (meet n.signed (span_of n.unsigned))) → NoRanges (nonempty (cut_signed n))
cut_none n e = cut_left (nat_le n.unsigned.lo n.unsigned.hi) _ n.unsigned (meet n.signed (span_of n.unsigned)) e

same_ranges : (t : Bool) (n m : Ranges) → Some m ≡ (if t then Some n else None) → m ≡ n
same_ranges true n m e = cc
same_ranges false n m e = absurd (cc)

-- what isn't empty is itself
itself : (n m : Ranges) → Some m ≡ nonempty n → m ≡ n
itself n m e = same_ranges (nat_le n.unsigned.lo n.unsigned.hi && int_le n.signed.lo n.signed.hi) n m e

-- an empty range stays empty
none_is : (t : Bool) (n : Ranges) → NoRanges (if t then Some n else None) → t ≡ false
none_is true n e = absurd (cc)
none_is false n e = refl

is_none : (t : Bool) (n : Ranges) → t ≡ false → NoRanges (if t then Some n else None)
is_none true n e = absurd (cc)
is_none false n e = refl

signed_stays : (n : Ranges) → NoRanges (nonempty n) → NoRanges (nonempty (cut_signed n))
signed_stays n e =
    let f = none_is (nat_le n.unsigned.lo n.unsigned.hi && int_le n.signed.lo n.signed.hi) n e in
    is_none (nat_le n.unsigned.lo n.unsigned.hi && int_le (meet n.signed (span_of n.unsigned)).lo (meet n.signed (span_of n.unsigned)).hi) (cut_signed n)
    (still n.unsigned n.signed (span_of n.unsigned) f)
  where
    still : (r : Interval) (p q : Span) → (nat_le r.lo r.hi && int_le p.lo p.hi) ≡ false → (nat_le r.lo r.hi && int_le (meet p q).lo (meet p q).hi) ≡ false
    still r p q f = grind (arith, nat_tests, ints, clamps)

unsigned_stays : (n : Ranges) → NoRanges (nonempty n) → NoRanges (nonempty (cut_unsigned n))
unsigned_stays n e = by_sign (int_le (pos 0) n.signed.lo || int_lt n.signed.hi (pos 0)) (residue 64 n.signed.lo) (residue 64 n.signed.hi)
  where
    f : (nat_le n.unsigned.lo n.unsigned.hi && int_le n.signed.lo n.signed.hi) ≡ false
    f = none_is (nat_le n.unsigned.lo n.unsigned.hi && int_le n.signed.lo n.signed.hi) n e

    still : (r : Interval) (lo hi : ℕ) (p : Span) → (nat_le r.lo r.hi && int_le p.lo p.hi) ≡ false → (nat_le (max r.lo lo) (min r.hi hi) && int_le p.lo p.hi) ≡ false
    still r lo hi p g = grind (arith, nat_tests)

    by_sign : (t : Bool) (lo hi : ℕ) → NoRanges (nonempty (if t then ranges (interval (max n.unsigned.lo lo) (min n.unsigned.hi hi)) n.signed else n))
    by_sign true lo hi = is_none (nat_le (max n.unsigned.lo lo) (min n.unsigned.hi hi) && int_le n.signed.lo n.signed.hi)
        (ranges (interval (max n.unsigned.lo lo) (min n.unsigned.hi hi)) n.signed) (still n.unsigned lo hi n.signed f)
    by_sign false lo hi = e

pub tidied_is : (n m k : Ranges) (o : Option Ranges) → o ≡ nonempty (cut_signed k) → Some k ≡ nonempty (cut_unsigned m) → Some m ≡ nonempty (cut_signed n) → o ≡ some_tidied n
unfolding some_tidied
tidied_is n m k o e q p =
    let first = itself (cut_signed n) m p in
    let second = itself (cut_unsigned m) k q in
    let all : k ≡ cut_unsigned (cut_signed n) = subst (λ (i : Ranges). k ≡ cut_unsigned i) first second in
    subst (λ (i : Ranges). o ≡ nonempty (cut_signed i)) all e

pub none_first : (n : Ranges) → NoRanges (nonempty (cut_signed n)) → NoRanges (some_tidied n)
unfolding some_tidied
none_first n e = signed_stays (cut_unsigned (cut_signed n)) (unsigned_stays (cut_signed n) e)

pub none_second : (n m : Ranges) → Some m ≡ nonempty (cut_signed n) → NoRanges (nonempty (cut_unsigned m)) → NoRanges (some_tidied n)
unfolding some_tidied
none_second n m p e =
    let first = itself (cut_signed n) m p in
    signed_stays (cut_unsigned (cut_signed n)) (subst (λ (i : Ranges). NoRanges (nonempty (cut_unsigned i))) first e)

-- numbers of which each range tells the other are tidy
pub spanned_is : (r : Interval) → r.lo ≤ r.hi → r.hi < 2 ^ 64 → Some (spanned r) ≡ some_tidied (spanned r)
unfolding some_tidied
spanned_is r h k = grind (arith, nat_tests, ints, clamps)

-- ---- the operators' own rows

signed-sum : (x y : ℕ) → x < 2 ^ 64 → y < 2 ^ 64 → neg_ℤ (pos (2 ^ 63)) ≤ℤ (signed 64 x +ℤ signed 64 y) → (signed 64 x +ℤ signed 64 y) <ℤ pos (2 ^ 63) →
    signed 64 (result_of Add 64 x y) ≡ signed 64 x +ℤ signed 64 y
signed-sum x y p q h k = grind (arith, nat_tests, ints)

signed-difference : (x y : ℕ) → x < 2 ^ 64 → y < 2 ^ 64 → neg_ℤ (pos (2 ^ 63)) ≤ℤ (signed 64 x -ℤ signed 64 y) → (signed 64 x -ℤ signed 64 y) <ℤ pos (2 ^ 63) →
    signed 64 (result_of Sub 64 x y) ≡ signed 64 x -ℤ signed 64 y
signed-difference x y p q h k = grind (arith, nat_tests, ints)

-- the signed reading of a residue
signed-residue : (z : ℤ) → neg_ℤ (pos (2 ^ 63)) ≤ℤ z → z <ℤ pos (2 ^ 63) → signed 64 (residue 64 z) ≡ z
signed-residue (pos k) h j = grind (arith, nat_tests, ints)
signed-residue (negsuc k) h j = grind (arith, nat_tests, ints)

pub shr_order : (a b : ℤ) (s : ℕ) → a ≤ℤ b → int_shr a s ≤ℤ int_shr b s
shr_order (pos a) (pos b) s h = omega (arith, ints, div_mono a b (2 ^ s) (2 ^ s) (omega (arith, ints)) (pow_pos s) (omega arith))
shr_order (pos a) (negsuc b) s h = absurd (omega (arith, ints))
shr_order (negsuc a) (pos b) s h = omega (arith, ints)
shr_order (negsuc a) (negsuc b) s h = omega (arith, ints, div_mono b a (2 ^ s) (2 ^ s) (omega (arith, ints)) (pow_pos s) (omega arith))

shr_low : (z : ℤ) (s : ℕ) → neg_ℤ (pos (2 ^ 63)) ≤ℤ z → neg_ℤ (pos (2 ^ 63)) ≤ℤ int_shr z s
shr_low (pos a) s h = omega (arith, ints)
shr_low (negsuc a) s h = omega (arith, ints, div-le_self a (2 ^ s))

shr_high : (z : ℤ) (s : ℕ) → z <ℤ pos (2 ^ 63) → int_shr z s <ℤ pos (2 ^ 63)
shr_high (pos a) s h = omega (arith, ints, div-le_self a (2 ^ s))
shr_high (negsuc a) s h = omega (arith, ints)

fits : (t : Bool) (s : Span) (k : ℤ) → (t ≡ true → Between s k) → IfSome (if t then Some s else None) (λ p. Between p k)
fits true s k h = h refl
fits false s k h = tt

bounds_of : (s : Span) → (int_le (neg_ℤ (pos (2 ^ 63))) s.lo && int_lt s.hi (pos (2 ^ 63))) ≡ true → (neg_ℤ (pos (2 ^ 63)) ≤ℤ s.lo) × (s.hi <ℤ pos (2 ^ 63))
bounds_of s e = grind (arith, ints)

Between-sum : (a b : Span) (x y : ℕ) → x < 2 ^ 64 → y < 2 ^ 64 → Between a (signed 64 x) → Between b (signed 64 y) →
    IfSome (fitting (signed_sum a b)) (λ s. Between s (signed 64 (result_of Add 64 x y)))
Between-sum a b x y p q h k =
    fits _ (signed_sum a b) (signed 64 (result_of Add 64 x y)) (λ e.
    let f = bounds_of (signed_sum a b) e in
    rw (signed-sum x y p q (omega (arith, ints)) (omega (arith, ints))) (omega (arith, ints), omega (arith, ints)))

Between-difference : (a b : Span) (x y : ℕ) → x < 2 ^ 64 → y < 2 ^ 64 → Between a (signed 64 x) → Between b (signed 64 y) →
    IfSome (fitting (signed_difference a b)) (λ s. Between s (signed 64 (result_of Sub 64 x y)))
Between-difference a b x y p q h k =
    fits _ (signed_difference a b) (signed 64 (result_of Sub 64 x y)) (λ e.
    let f = bounds_of (signed_difference a b) e in
    rw (signed-difference x y p q (omega (arith, ints)) (omega (arith, ints))) (omega (arith, ints), omega (arith, ints)))

Between-shift : (a : Span) (x s : ℕ) → x < 2 ^ 64 → Between a (signed 64 x) → Between (signed_shift a s) (signed 64 (residue 64 (int_shr (signed 64 x) s)))
Between-shift a x s p h =
    rw (signed-residue (int_shr (signed 64 x) s) (shr_low (signed 64 x) s (reading_low x p)) (shr_high (signed 64 x) s (reading_high x p)))
    (shr_order _ _ s h.0, shr_order _ _ s h.1)

by_one : (t : Bool) (s : Span) (k : ℤ) → (t ≡ true → Between s k) → IfSome (if t then Some s else None) (λ p. Between p k)
by_one true s k h = h refl
by_one false s k h = tt

only : (r : Interval) (y : ℕ) → is_single r ≡ true → Within r y → y ≡ r.lo
only r y e h = grind (arith, nat_tests)

-- the row covers what the operator gives, on numbers of 64 bits
Between-row : (w : Width) (op : AluOp) (a b : Ranges) (x y : ℕ) → x < 2 ^ 64 → y < 2 ^ 64 → Among a x → Among b y →
    IfSome (signed_row w op a b) (λ s. Between s (signed 64 (number_result w op x y)))
Between-row W32 op a b x y p q h k = tt
Between-row W64 Add a b x y p q h k =
    rw (mod-eq_of_lt {n = x} p, mod-eq_of_lt {n = y} q) (Between-sum a.signed b.signed x y p q h.1 k.1)
Between-row W64 Sub a b x y p q h k =
    rw (mod-eq_of_lt p, mod-eq_of_lt q) (Between-difference a.signed b.signed x y p q h.1 k.1)
Between-row W64 Arsh a b x y p q h k =
    by_one _ (signed_shift a.signed (b.unsigned.lo % 64)) _ (λ e.
    let i : y ≡ b.unsigned.lo = only b.unsigned y e k.0 in
    rw (mod-eq_of_lt p, mod-eq_of_lt q, i) (Between-shift a.signed x (b.unsigned.lo % 64) p h.1))
Between-row W64 Mul a b x y p q h k = tt
Between-row W64 Div a b x y p q h k = tt
Between-row W64 Sdiv a b x y p q h k = tt
Between-row W64 Or a b x y p q h k = tt
Between-row W64 And a b x y p q h k = tt
Between-row W64 Lsh a b x y p q h k = tt
Between-row W64 Rsh a b x y p q h k = tt
Between-row W64 Mod a b x y p q h k = tt
Between-row W64 Smod a b x y p q h k = tt
Between-row W64 Xor a b x y p q h k = tt

pub Between-row_unless : (t : Bool) (w : Width) (op : AluOp) (a b : Ranges) (x y : ℕ) → x < 2 ^ 64 → y < 2 ^ 64 → Among a x → Among b y →
    IfSome (if t then None else signed_row w op a b) (λ s. Between s (signed 64 (number_result w op x y)))
Between-row_unless true w op a b x y p q h k = tt
Between-row_unless false w op a b x y p q h k = Between-row w op a b x y p q h k

pub Among-beside : (r : Interval) (o : Option Span) (x : ℕ) → x < 2 ^ 64 → Within r x → IfSome o (λ s. Between s (signed 64 x)) → Among (beside r o) x
Among-beside r None x p h k = Among-spanned r x p h
Among-beside r (Some s) x p h k = or_kept (spanned r) (some_tidied (ranges r s)) x (Among-spanned r x p h) (Among-some_tidied (ranges r s) x p (h, k))
