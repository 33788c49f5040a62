-- Joins and refinements keep what was covered.
use Rattle.std.proofs.Common.{◌≡◌, ℕ, ℤ, Bool, true, false, Option, Some, None, ◌⊎◌, ⊎_elim, inl, inr, arith, refl, ◌%◌, ◌^◌, ◌<◌, ◌≤◌, ◌<ℤ◌, ◌≤ℤ◌}
use Rattle.std.specs.Prelude.{◌≢◌, IfSome, if◌then◌else◌, ◌&&◌, int_le}
use Rattle.std.proofs.lemmas.Int.{ints, clamps}
use Rattle.std.proofs.lemmas.Bool.Decides.{nat_tests}
use Rattle.std.proofs.Math.Nat.{mod-eq_of_lt}
use Rattle.value_ranges.specs.Covers.{Covers, CoversBoth}
use Rattle.value_ranges.specs.Interval.{Interval, Within}
use Rattle.value_ranges.specs.Joins.{joined, hull, span_hull, ranges_hull}
use Rattle.value_ranges.specs.Numbers.{Ranges, ranges, spanned, Among, some_span, some_tidied}
use Rattle.value_ranges.specs.Refinements.{refined_by, CoversEdge, relation_of, signed_relation_of, tells, narrowed, narrowed_pair, signed_narrowed, unless_empty, signed_pair, both, tidied_both, with_unsigned, with_signed, refined_ranges, refined_pair, is_whole, is_other, is_register_operand, compared}
use Rattle.value_ranges.specs.Span.{Span, Between}
use Rattle.machine_model.specs.Value.{Value}
use Rattle.machine_model.specs.Value as value
use Rattle.value_ranges.specs.declared.abs.Abs.{Abs}
use Rattle.value_ranges.specs.declared.abs.Abs.TheVariants.{Unset, Num, Stack, Part}
use Rattle.machine_model.specs.Operators.{bits_of, holds, signed}
use Rattle.insn_codec.specs.declared.insn.Width.{Width}
use Rattle.insn_codec.specs.declared.insn.Width.TheVariants.{W32, W64}
use Rattle.insn_codec.specs.declared.insn.Operand.{Operand}
use Rattle.insn_codec.specs.declared.insn.Operand.TheVariants as operand
use Rattle.value_ranges.specs.Ranges.{cut}
use Rattle.value_ranges.proofs.RowLemmas.{Within-cut}
use Rattle.value_ranges.proofs.SignedLemmas.{Among-or_else, Among-some_tidied, Among-spanned}
use Rattle.insn_codec.specs.declared.insn.Condition.{Condition}
use Rattle.insn_codec.specs.declared.insn.Condition.TheVariants.{Equal, NotEqual, Greater, GreaterEqual, Less, LessEqual, Set, SignedGreater, SignedGreaterEqual, SignedLess, SignedLessEqual}
use Rattle.value_ranges.specs.declared.refinements.Relation.{Relation}
use Rattle.value_ranges.specs.declared.refinements.Relation.TheVariants.{Same, Differs, Above, AtLeast, Below, AtMost}
use Rattle.insn_codec.specs.declared.insn.Insn.{Insn}
use Rattle.insn_codec.specs.declared.insn.Insn.TheVariants.{JumpIf}

Within-hull : (a b : Interval) (x : ℕ) → Within a x ⊎ Within b x → Within (hull a b) x
Within-hull a b x h = grind arith

Between-hull : (p q : Span) (k : ℤ) → Between p k ⊎ Between q k → Between (span_hull p q) k
Between-hull p q k (inl h) = (omega (arith, ints, clamps), omega (arith, ints, clamps))
Between-hull p q k (inr h) = (omega (arith, ints, clamps), omega (arith, ints, clamps))

Among-hull : (a b : Ranges) (x : ℕ) → Among a x ⊎ Among b x → Among (ranges_hull a b) x
Among-hull a b x (inl h) = (Within-hull a.unsigned b.unsigned x (inl h.0), Between-hull a.signed b.signed (signed 64 x) (inl h.1))
Among-hull a b x (inr h) = (Within-hull a.unsigned b.unsigned x (inr h.0), Between-hull a.signed b.signed (signed 64 x) (inr h.1))

pub covers_joined : (a b : Abs) (v : Value) → Covers a v ⊎ Covers b v → Covers (joined a b) v
covers_joined Unset b v h = tt
covers_joined (Num a) Unset v h = tt
covers_joined (Num a) (Num b) (value.Num x) (inl h) = (Among-or_else (ranges_hull a b) x h.1 (Among-hull a b x (inl h.0)), h.1)
covers_joined (Num a) (Num b) (value.Num x) (inr h) = (Among-or_else (ranges_hull a b) x h.1 (Among-hull a b x (inr h.0)), h.1)
covers_joined (Num a) (Num b) value.Unset h = ⊎_elim (λ e. e) (λ e. e) h
covers_joined (Num a) (Num b) (value.Stack k) h = ⊎_elim (λ e. e) (λ e. e) h
covers_joined (Num a) (Num b) (value.Part k) h = ⊎_elim (λ e. e) (λ e. e) h
covers_joined (Num a) (Stack q) v h = tt
covers_joined (Num a) (Part q) v h = tt
covers_joined (Stack p) Unset v h = tt
covers_joined (Stack p) (Num b) v h = tt
covers_joined (Stack p) (Stack q) (value.Stack k) h = Between-hull p q k h
covers_joined (Stack p) (Stack q) value.Unset h = ⊎_elim (λ e. e) (λ e. e) h
covers_joined (Stack p) (Stack q) (value.Num k) h = ⊎_elim (λ e. e) (λ e. e) h
covers_joined (Stack p) (Stack q) (value.Part k) h = ⊎_elim (λ e. e) (λ e. e) h
covers_joined (Stack p) (Part q) v h = tt
covers_joined (Part p) Unset v h = tt
covers_joined (Part p) (Num b) v h = tt
covers_joined (Part p) (Stack q) v h = tt
covers_joined (Part p) (Part q) (value.Part k) h = Between-hull p q k h
covers_joined (Part p) (Part q) value.Unset h = ⊎_elim (λ e. e) (λ e. e) h
covers_joined (Part p) (Part q) (value.Num k) h = ⊎_elim (λ e. e) (λ e. e) h
covers_joined (Part p) (Part q) (value.Stack k) h = ⊎_elim (λ e. e) (λ e. e) h

pub joined_covers : (a b r : Abs) → r ≡ joined a b → CoversBoth a b r
joined_covers a b r e = rw e (covers_joined a b)

second : (s t : Bool) → (s && t) ≡ true → t ≡ true
second true t e = e
second false t e = absurd (cc)

-- what a fact says of two numbers
abbrev RelationHolds : Relation → ℕ → ℕ → Type 0
RelationHolds Same x y = x ≡ y
RelationHolds Differs x y = x ≢ y
RelationHolds Above x y = y < x
RelationHolds AtLeast x y = y ≤ x
RelationHolds Below x y = x < y
RelationHolds AtMost x y = x ≤ y

relation_holds : (t : Condition) (taken : Bool) (n x y : ℕ) → holds t n x y ≡ taken → IfSome (relation_of t taken) (λ f. RelationHolds f x y)
relation_holds Equal true n x y e = grind (arith, nat_tests)
relation_holds Equal false n x y e = grind (arith, nat_tests)
relation_holds NotEqual true n x y e = grind (arith, nat_tests)
relation_holds NotEqual false n x y e = grind (arith, nat_tests)
relation_holds Greater true n x y e = grind (arith, nat_tests)
relation_holds Greater false n x y e = grind (arith, nat_tests)
relation_holds GreaterEqual true n x y e = grind (arith, nat_tests)
relation_holds GreaterEqual false n x y e = grind (arith, nat_tests)
relation_holds Less true n x y e = grind (arith, nat_tests)
relation_holds Less false n x y e = grind (arith, nat_tests)
relation_holds LessEqual true n x y e = grind (arith, nat_tests)
relation_holds LessEqual false n x y e = grind (arith, nat_tests)
relation_holds Set taken n x y e = tt
relation_holds SignedGreater taken n x y e = tt
relation_holds SignedGreaterEqual taken n x y e = tt
relation_holds SignedLess taken n x y e = tt
relation_holds SignedLessEqual taken n x y e = tt

abbrev BothWithin : Interval × Interval → ℕ → ℕ → Type 0
BothWithin r x y = Within r.0 x × Within r.1 y

Within-narrowed : (f : Relation) (a b : Interval) (x y : ℕ) → tells f b ≡ true → RelationHolds f x y → Within a x → Within b y →
    BothWithin (narrowed f a b) x y
Within-narrowed Same a b x y t e h k = (omega arith, omega arith)
Within-narrowed Differs a b x y t e h k = (grind (arith, nat_tests), k)
Within-narrowed Above a b x y t e h k = (omega arith, omega arith)
Within-narrowed AtLeast a b x y t e h k = (omega arith, omega arith)
Within-narrowed Below a b x y t e h k = (omega arith, omega arith)
Within-narrowed AtMost a b x y t e h k = (omega arith, omega arith)

-- what a fact says of two signed readings
abbrev SignedHolds : Relation → ℤ → ℤ → Type 0
SignedHolds Same x y = x ≡ y
SignedHolds Differs x y = Unit {0}
SignedHolds Above x y = y <ℤ x
SignedHolds AtLeast x y = y ≤ℤ x
SignedHolds Below x y = x <ℤ y
SignedHolds AtMost x y = x ≤ℤ y

signed_relation_holds : (w : Width) (t : Condition) (taken : Bool) (x y : ℕ) → holds t (bits_of w) x y ≡ taken →
    IfSome (signed_relation_of w t taken) (λ f. SignedHolds f (signed 64 x) (signed 64 y))
signed_relation_holds W32 t taken x y e = tt
signed_relation_holds W64 SignedGreater true x y e = grind (arith, ints)
signed_relation_holds W64 SignedGreater false x y e = grind (arith, ints)
signed_relation_holds W64 SignedGreaterEqual true x y e = grind (arith, ints)
signed_relation_holds W64 SignedGreaterEqual false x y e = grind (arith, ints)
signed_relation_holds W64 SignedLess true x y e = grind (arith, ints)
signed_relation_holds W64 SignedLess false x y e = grind (arith, ints)
signed_relation_holds W64 SignedLessEqual true x y e = grind (arith, ints)
signed_relation_holds W64 SignedLessEqual false x y e = grind (arith, ints)
signed_relation_holds W64 Equal taken x y e = tt
signed_relation_holds W64 NotEqual taken x y e = tt
signed_relation_holds W64 Greater taken x y e = tt
signed_relation_holds W64 GreaterEqual taken x y e = tt
signed_relation_holds W64 Less taken x y e = tt
signed_relation_holds W64 LessEqual taken x y e = tt
signed_relation_holds W64 Set taken x y e = tt

abbrev BothBetween : Span × Span → ℤ → ℤ → Type 0
BothBetween s x y = Between s.0 x × Between s.1 y

Between-narrowed : (f : Relation) (a b : Span) (x y : ℤ) → SignedHolds f x y → Between a x → Between b y → BothBetween (signed_narrowed f a b) x y
Between-narrowed Same a b x y e h k = (grind (arith, ints, clamps), grind (arith, ints, clamps))
Between-narrowed Differs a b x y e h k = (h, k)
Between-narrowed Above a b x y e h k = (grind (arith, ints, clamps), grind (arith, ints, clamps))
Between-narrowed AtLeast a b x y e h k = (grind (arith, ints, clamps), grind (arith, ints, clamps))
Between-narrowed Below a b x y e h k = (grind (arith, ints, clamps), grind (arith, ints, clamps))
Between-narrowed AtMost a b x y e h k = (grind (arith, ints, clamps), grind (arith, ints, clamps))

chosen : (t : Bool) (r : Interval × Interval) (x y : ℕ) → BothWithin r x y → IfSome (if t then Some r else None) (λ p. BothWithin p x y)
chosen true r x y h = h
chosen false r x y h = tt

told : (t : Bool) (o : Option (Interval × Interval)) (x y : ℕ) → (t ≡ true → IfSome o (λ p. BothWithin p x y)) →
    IfSome (if t then o else None) (λ p. BothWithin p x y)
told true o x y h = h refl
told false o x y h = tt

kept_span : (t : Bool) (s : Span) (x : ℤ) → Between s x → IfSome (if t then Some s else None) (λ p. Between p x)
kept_span true s x h = h
kept_span false s x h = tt

two_spans : (a b : Option Span) (x y : ℤ) → IfSome a (λ s. Between s x) → IfSome b (λ s. Between s y) → IfSome (both a b) (λ p. BothBetween p x y)
two_spans (Some a) (Some b) x y h k = (h, k)
two_spans (Some a) None x y h k = tt
two_spans None b x y h k = tt

signed_chosen : (s : Span × Span) (x y : ℤ) → BothBetween s x y → IfSome (signed_pair s) (λ p. BothBetween p x y)
signed_chosen s x y h = two_spans (some_span s.0) (some_span s.1) x y (kept_span (int_le s.0.lo s.0.hi) s.0 x h.0) (kept_span (int_le s.1.lo s.1.hi) s.1 y h.1)

abbrev BothAmong : Ranges × Ranges → ℕ → ℕ → Type 0
BothAmong p x y = Among p.0 x × Among p.1 y

two : (a b : Option Ranges) (x y : ℕ) → IfSome a (λ n. Among n x) → IfSome b (λ n. Among n y) → IfSome (both a b) (λ p. BothAmong p x y)
two (Some a) (Some b) x y h k = (h, k)
two (Some a) None x y h k = tt
two None b x y h k = tt

Among-both : (a b : Ranges) (x y : ℕ) → x < 2 ^ 64 → y < 2 ^ 64 → Among a x → Among b y → IfSome (tidied_both a b) (λ p. BothAmong p x y)
Among-both a b x y p q h k = two (some_tidied a) (some_tidied b) x y (Among-some_tidied a x p h) (Among-some_tidied b y q k)

by_unsigned : (a b : Ranges) (o : Option (Interval × Interval)) (x y : ℕ) → x < 2 ^ 64 → y < 2 ^ 64 → Among a x → Among b y → IfSome o (λ r. BothWithin r x y) →
    IfSome (with_unsigned a b o) (λ p. BothAmong p x y)
by_unsigned a b None x y p q h k s = tt
by_unsigned a b (Some r) x y p q h k s = Among-both (ranges r.0 a.signed) (ranges r.1 b.signed) x y p q (s.0, h.1) (s.1, k.1)

by_signed : (a b : Ranges) (o : Option (Span × Span)) (x y : ℕ) → x < 2 ^ 64 → y < 2 ^ 64 → Among a x → Among b y → IfSome o (λ r. BothBetween r (signed 64 x) (signed 64 y)) →
    IfSome (with_signed a b o) (λ p. BothAmong p x y)
by_signed a b None x y p q h k s = tt
by_signed a b (Some r) x y p q h k s = Among-both (ranges a.unsigned r.0) (ranges b.unsigned r.1) x y p q (h.0, s.0) (k.0, s.1)

Among-refined : (o s : Option Relation) (a b : Ranges) (x y : ℕ) → x < 2 ^ 64 → y < 2 ^ 64 → IfSome o (λ f. RelationHolds f x y) →
    IfSome s (λ f. SignedHolds f (signed 64 x) (signed 64 y)) → Among a x → Among b y → IfSome (refined_ranges o s a b) (λ p. BothAmong p x y)
Among-refined (Some f) s a b x y p q e d h k =
    by_unsigned a b (narrowed_pair f a.unsigned b.unsigned) x y p q h k
    (told (tells f b.unsigned) (unless_empty (narrowed f a.unsigned b.unsigned)) x y (λ t.
    chosen _ (narrowed f a.unsigned b.unsigned) x y (Within-narrowed f a.unsigned b.unsigned x y t e h.0 k.0)))
Among-refined None (Some f) a b x y p q e d h k =
    by_signed a b (signed_pair (signed_narrowed f a.signed b.signed)) x y p q h k
    (signed_chosen (signed_narrowed f a.signed b.signed) (signed 64 x) (signed 64 y) (Between-narrowed f a.signed b.signed _ _ d h.1 k.1))
Among-refined None None a b x y p q e d h k = tt

abbrev BothCover : Abs × Abs → ℕ → ℕ → Type 0
BothCover p x y = Covers p.0 (value.Num x) × Covers p.1 (value.Num y)

pair_covers : (source : Bool) (a b : Ranges) (x y : ℕ) (o : Option (Ranges × Ranges)) → x < 2 ^ 64 → y < 2 ^ 64 → IfSome o (λ p. BothAmong p x y) → Among a x → Among b y → BothCover (refined_pair source a b o) x y
pair_covers source a b x y None p q s h k = ((h, p), (k, q))
pair_covers true a b x y (Some r) p q s h k = ((s.0, p), (s.1, q))
pair_covers false a b x y (Some r) p q s h k = ((s.0, p), (k, q))

unless_whole : (t : Bool) (p : Abs × Abs) (a b : Ranges) (x y : ℕ) → x < 2 ^ 64 → y < 2 ^ 64 → (t ≡ true → BothCover p x y) → Among a x → Among b y → BothCover (if t then p else (Num a, Num b)) x y
unless_whole true r a b x y p q s h k = s refl
unless_whole false r a b x y p q s h k = ((h, p), (k, q))

-- a comparison of whole numbers does not see the width
whole : (w : Width) (a b : Ranges) (x y : ℕ) → is_whole w a b ≡ true → x < 2 ^ 64 → y < 2 ^ 64 → Among a x → Among b y → (x % 2 ^ bits_of w ≡ x) × (y % 2 ^ bits_of w ≡ y)
whole W64 a b x y e p q h k = (mod-eq_of_lt p, mod-eq_of_lt q)
whole W32 a b x y e p q h k =
    let first = h.0 in
    let second = k.0 in
    (mod-eq_of_lt (grind (arith, nat_tests)), mod-eq_of_lt (grind (arith, nat_tests)))

-- an immediate keeps its range
kept : (a b : Ranges) (x y z : ℕ) (o : Option (Ranges × Ranges)) → x < 2 ^ 64 → y < 2 ^ 64 → IfSome o (λ p. BothAmong p x z) → Among a x → Among b y → BothCover (refined_pair false a b o) x y
kept a b x y z None p q s h k = ((h, p), (k, q))
kept a b x y z (Some r) p q s h k = ((s.0, p), (k, q))

-- a comparison of the first operand as it is
whole_first : (w : Width) (a b : Ranges) (x : ℕ) → is_whole w a b ≡ true → x < 2 ^ 64 → Among a x → x % 2 ^ bits_of w ≡ x
whole_first W64 a b x e p h = mod-eq_of_lt p
whole_first W32 a b x e p h = let first = h.0 in mod-eq_of_lt (grind (arith, nat_tests))

low_bits : (w : Width) (y : ℕ) → y < 2 ^ 64 → y % 2 ^ bits_of w < 2 ^ 64
low_bits W32 y q = omega arith
low_bits W64 y q = omega arith

jump : (w : Width) (t : Condition) (d : ℕ) (s : Operand) (taken : Bool) (a b : Ranges) (x y : ℕ) → x < 2 ^ 64 → y < 2 ^ 64 → Among a x → Among b y → holds t (bits_of w) (x % 2 ^ bits_of w) (y % 2 ^ bits_of w) ≡ taken → BothCover (if is_other d s && is_whole w a (compared s w b) then refined_pair (is_register_operand s) a b (refined_ranges (relation_of t taken) (signed_relation_of w t taken) a (compared s w b)) else (Num a, Num b)) x y
jump w t d (operand.Reg s) taken a b x y p q h k g =
    unless_whole (is_other d (operand.Reg s) && is_whole w a b) _ a b x y p q
    (λ e.
    let m = whole w a b x y (second (is_other d (operand.Reg s)) (is_whole w a b) e) p q h k in
    let plain : holds t (bits_of w) x y ≡ taken = simp (m.0, m.1) at g in
    pair_covers true a b x y _ p q
    (Among-refined (relation_of t taken) (signed_relation_of w t taken) a b x y p q (relation_holds t taken (bits_of w) x y plain) (signed_relation_holds w t taken x y plain) h k) h k)
    h k
jump w t d (operand.Imm i) taken a b x y p q h k g =
    let c = spanned (cut (bits_of w) b.unsigned) in
    let z = y % 2 ^ bits_of w in
    let small = low_bits w y q in
    unless_whole (is_whole w a c) _ a b x y p q
    (λ e.
    let m = whole_first w a c x e p h in
    let plain : holds t (bits_of w) x z ≡ taken = simp m at g in
    kept a b x y z _ p q
    (Among-refined (relation_of t taken) (signed_relation_of w t taken) a c x z p small (relation_holds t taken (bits_of w) x z plain) (signed_relation_holds w t taken x z plain) h
    (Among-spanned (cut (bits_of w) b.unsigned) z small (Within-cut (bits_of w) b.unsigned y k.0))) h k)
    h k

pub covers_edge : (i : Insn) (taken : Bool) (a b : Abs) → CoversEdge i taken a b (refined_by i taken a b)
covers_edge (JumpIf w t d s o) taken (Num a) (Num b) (value.Num x) (value.Num y) h k g = jump w t d s taken a b x y h.1 k.1 h.0 k.0 g
covers_edge (JumpIf w t d s o) taken (Num a) (Num b) value.Unset y h k g = absurd h
covers_edge (JumpIf w t d s o) taken (Num a) (Num b) (value.Stack z) y h k g = absurd h
covers_edge (JumpIf w t d s o) taken (Num a) (Num b) (value.Part z) y h k g = absurd h
covers_edge (JumpIf w t d s o) taken (Num a) (Num b) (value.Num x) value.Unset h k g = absurd k
covers_edge (JumpIf w t d s o) taken (Num a) (Num b) (value.Num x) (value.Stack z) h k g = absurd k
covers_edge (JumpIf w t d s o) taken (Num a) (Num b) (value.Num x) (value.Part z) h k g = absurd k
covers_edge (JumpIf w t d s o) taken (Num a) Unset x y h k g = (h, k)
covers_edge (JumpIf w t d s o) taken (Num a) (Stack z) x y h k g = (h, k)
covers_edge (JumpIf w t d s o) taken (Num a) (Part z) x y h k g = (h, k)
covers_edge (JumpIf w t d s o) taken Unset b x y h k g = (h, k)
covers_edge (JumpIf w t d s o) taken (Stack z) b x y h k g = (h, k)
covers_edge (JumpIf w t d s o) taken (Part z) b x y h k g = (h, k)
covers_edge _ taken a b x y h k g = (h, k)

pub refined_covers : (i : Insn) (taken : Bool) (a b : Abs) (r : Abs × Abs) → r ≡ refined_by i taken a b → CoversEdge i taken a b r
refined_covers i taken a b r e = rw e (covers_edge i taken a b)
