-- What an edge of a conditional jump tells of the operands.
use Rattle.std.specs.Prelude.{ℕ, ℤ, pos, ◌+ℤ◌, ◌-ℤ◌, Bool, true, false, ◌≡◌, ◌+◌, ◌-◌, ◌%◌, ◌^◌, nat_lt, nat_le, ◌==◌, not, ◌&&◌, if◌then◌else◌, min, max, Option, Some, None}
use Rattle.std.specs.Int.{int_min, int_max}
use Rattle.value_ranges.specs.Covers.{Covers}
use Rattle.value_ranges.specs.Interval.{Interval, interval, is_single}
use Rattle.value_ranges.specs.Numbers.{Ranges, ranges, spanned, meet, some_span, some_tidied}
use Rattle.value_ranges.specs.Ranges.{cut}
use Rattle.value_ranges.specs.Span.{Span, span}
use Rattle.machine_model.specs.Operators.{bits_of, holds}
use Rattle.machine_model.specs.Value.{Value}
use Rattle.machine_model.specs.Value as value
use Rattle.value_ranges.specs.declared.abs.Abs.{Abs}
use Rattle.value_ranges.specs.declared.abs.Abs.TheVariants.{Num}
use Rattle.insn_codec.specs.declared.insn.Width.{Width}
use Rattle.insn_codec.specs.declared.insn.Width.TheVariants.{W32, W64}
use Rattle.insn_codec.specs.declared.insn.Operand.{Operand}
use Rattle.insn_codec.specs.declared.insn.Operand.TheVariants as operand
use Rattle.insn_codec.specs.declared.insn.Condition.{Condition}
use Rattle.insn_codec.specs.declared.insn.Condition.TheVariants.{Equal, NotEqual, Greater, GreaterEqual, Less, LessEqual, SignedGreater, SignedGreaterEqual, SignedLess, SignedLessEqual}
use Rattle.insn_codec.specs.declared.insn.Insn.{Insn}
use Rattle.insn_codec.specs.declared.insn.Insn.TheVariants.{JumpIf}
use Rattle.value_ranges.specs.declared.refinements.Relation.{Relation}
use Rattle.value_ranges.specs.declared.refinements.Relation.TheVariants.{Same, Differs, Above, AtLeast, Below, AtMost}

-- how the operands stand where the jump is taken, or where it is not
abbrev pub relation_of : Condition → Bool → Option Relation
relation_of Equal true = Some Same
relation_of Equal false = Some Differs
relation_of NotEqual true = Some Differs
relation_of NotEqual false = Some Same
relation_of Greater true = Some Above
relation_of Greater false = Some AtMost
relation_of GreaterEqual true = Some AtLeast
relation_of GreaterEqual false = Some Below
relation_of Less true = Some Below
relation_of Less false = Some AtLeast
relation_of LessEqual true = Some AtMost
relation_of LessEqual false = Some Above
relation_of _ _ = None

-- how their signed readings stand: the jump compares 64 bits
abbrev pub signed_relation_of : Width → Condition → Bool → Option Relation
signed_relation_of W64 SignedGreater true = Some Above
signed_relation_of W64 SignedGreater false = Some AtMost
signed_relation_of W64 SignedGreaterEqual true = Some AtLeast
signed_relation_of W64 SignedGreaterEqual false = Some Below
signed_relation_of W64 SignedLess true = Some Below
signed_relation_of W64 SignedLess false = Some AtLeast
signed_relation_of W64 SignedLessEqual true = Some AtMost
signed_relation_of W64 SignedLessEqual false = Some Above
signed_relation_of _ _ _ = None

-- a without this number, where that is an end of it
abbrev pub without : Interval → ℕ → Interval
without a n =
    if a.lo == n then interval (a.lo + 1) a.hi
    else (if a.hi == n then interval a.lo (a.hi - 1) else a)

-- that two numbers differ tells something of the first where the second is a single one
abbrev pub tells : Relation → Interval → Bool
tells Same b = true
tells Differs b = is_single b
tells Above b = true
tells AtLeast b = true
tells Below b = true
tells AtMost b = true

-- the two ranges of numbers that stand so
abbrev pub narrowed : Relation → Interval → Interval → Interval × Interval
narrowed Same a b = (
  interval (max a.lo b.lo) (min a.hi b.hi),
  interval (max a.lo b.lo) (min a.hi b.hi),
)
narrowed Above a b = (interval (max a.lo (b.lo + 1)) a.hi, interval b.lo (min b.hi (a.hi - 1)))
narrowed AtLeast a b = (interval (max a.lo b.lo) a.hi, interval b.lo (min b.hi a.hi))
narrowed Below a b = (interval a.lo (min a.hi (b.hi - 1)), interval (max b.lo (a.lo + 1)) b.hi)
narrowed AtMost a b = (interval a.lo (min a.hi b.hi), interval (max b.lo a.lo) b.hi)
narrowed Differs a b = (without a b.lo, b)

-- the two ranges, unless one of them is empty
abbrev pub unless_empty : Interval × Interval → Option (Interval × Interval)
unless_empty r = if nat_le r.0.lo r.0.hi && nat_le r.1.lo r.1.hi then Some r else None

-- the two ranges of numbers that stand so, where that tells something and leaves neither empty
abbrev pub narrowed_pair : Relation → Interval → Interval → Option (Interval × Interval)
narrowed_pair f a b = if tells f b then unless_empty (narrowed f a b) else None

-- those of the numbers from x on, or up to x
abbrev pub at_least : Span → ℤ → Span
at_least s x = span (int_max s.lo x) s.hi

abbrev pub at_most : Span → ℤ → Span
at_most s x = span s.lo (int_min s.hi x)

-- the two ranges of signed readings that stand so
abbrev pub signed_narrowed : Relation → Span → Span → Span × Span
signed_narrowed Same a b = (meet a b, meet a b)
signed_narrowed Above a b = (at_least a (b.lo +ℤ pos 1), at_most b (a.hi -ℤ pos 1))
signed_narrowed AtLeast a b = (at_least a b.lo, at_most b a.hi)
signed_narrowed Below a b = (at_most a (b.hi -ℤ pos 1), at_least b (a.lo +ℤ pos 1))
signed_narrowed AtMost a b = (at_most a b.hi, at_least b a.lo)
signed_narrowed Differs a b = (a, b)

-- both, if there are both
abbrev pub both : {A : Type 0} → Option A → Option A → Option (A × A)
both (Some a) (Some b) = Some (a, b)
both (Some a) None = None
both None o = None

abbrev pub signed_pair : Span × Span → Option (Span × Span)
signed_pair s = both (some_span s.0) (some_span s.1)

abbrev pub tidied_both : Ranges → Ranges → Option (Ranges × Ranges)
tidied_both a b = both (some_tidied a) (some_tidied b)

abbrev pub with_unsigned : Ranges → Ranges → Option (Interval × Interval) → Option (Ranges × Ranges)
with_unsigned a b None = None
with_unsigned a b (Some r) = tidied_both (ranges r.0 a.signed) (ranges r.1 b.signed)

abbrev pub with_signed : Ranges → Ranges → Option (Span × Span) → Option (Ranges × Ranges)
with_signed a b None = None
with_signed a b (Some s) = tidied_both (ranges a.unsigned s.0) (ranges b.unsigned s.1)

-- the source is another register or an immediate
abbrev pub is_other : ℕ → Operand → Bool
is_other d (operand.Reg s) = not (d == s)
is_other d (operand.Imm z) = true

abbrev pub is_register_operand : Operand → Bool
is_register_operand (operand.Reg s) = true
is_register_operand (operand.Imm z) = false

-- what the jump compares the first operand with: an immediate is one number of the width
abbrev pub compared : Operand → Width → Ranges → Ranges
compared (operand.Reg s) w b = b
compared (operand.Imm z) w b = spanned (cut (bits_of w) b.unsigned)

-- the jump compares the numbers as they are
abbrev pub is_whole : Width → Ranges → Ranges → Bool
is_whole W64 a b = true
is_whole W32 a b = nat_lt a.unsigned.hi (2 ^ 32) && nat_lt b.unsigned.hi (2 ^ 32)

-- what the two are where they stand so, as numbers or as signed readings
abbrev pub refined_ranges : Option Relation → Option Relation → Ranges → Ranges
    → Option (Ranges × Ranges)
refined_ranges (Some f) g a b = with_unsigned a b (narrowed_pair f a.unsigned b.unsigned)
refined_ranges None (Some g) a b =
    with_signed a b (signed_pair (signed_narrowed g a.signed b.signed))
refined_ranges None None a b = None

abbrev pub refined_pair : Bool → Ranges → Ranges → Option (Ranges × Ranges) → Abs × Abs
refined_pair source a b None = (Num a, Num b)
refined_pair source a b (Some r) = (Num r.0, Num (if source then r.1 else b))

-- the table of refinements
abbrev pub refined_by : Insn → Bool → Abs → Abs → Abs × Abs
refined_by (JumpIf w t d s o) taken (Num a) (Num b) =
    if is_other d s && is_whole w a (compared s w b)
    then refined_pair (is_register_operand s) a b
    (refined_ranges (relation_of t taken) (signed_relation_of w t taken) a (compared s w b))
    else (Num a, Num b)
refined_by i taken a b = (a, b)

abbrev pub IsConditional : Insn → Type 0
IsConditional (JumpIf w t d s o) = Unit {0}
IsConditional _ = ⊥

-- whether the jump goes the way of the edge, on two numbers
abbrev pub GoesAlong : Insn → Bool → Value → Value → Type 0
GoesAlong (JumpIf w t d s o) taken (value.Num x) (value.Num y) =
    holds t (bits_of w) (x % 2 ^ bits_of w) (y % 2 ^ bits_of w) ≡ taken
GoesAlong i taken x y = Unit {0}

-- the pair still covers what the operands can be on the edge
abbrev pub CoversEdge : Insn → Bool → Abs → Abs → Abs × Abs → Type 0
CoversEdge i taken a b r =
    (x y : Value) → Covers a x → Covers b y → GoesAlong i taken x y → Covers r.0 x × Covers r.1 y
