-- What the operators give on signed numbers of two ranges.
use Rattle.std.specs.Prelude.{ℕ, pos, ◌+ℤ◌, ◌-ℤ◌, neg_ℤ, ◌%◌, ◌^◌, int_le, int_lt, ◌&&◌, if◌then◌else◌, Option, Some, None}
use Rattle.std.specs.Int.{int_shr}
use Rattle.insn_codec.specs.declared.insn.Width.{Width}
use Rattle.insn_codec.specs.declared.insn.Width.TheVariants.{W64}
use Rattle.insn_codec.specs.declared.insn.AluOp.{AluOp}
use Rattle.insn_codec.specs.declared.insn.AluOp.TheVariants.{Add, Sub, Arsh}
use Rattle.value_ranges.specs.Interval.{Interval, is_single}
use Rattle.value_ranges.specs.Numbers.{Ranges, ranges, spanned, some_tidied, or_else}
use Rattle.value_ranges.specs.Span.{Span, span}

-- where it lies within 64 signed bits
abbrev pub fitting : Span → Option Span
fitting s = if int_le (neg_ℤ (pos (2 ^ 63))) s.lo && int_lt s.hi (pos (2 ^ 63)) then Some s
    else None

abbrev pub signed_sum : Span → Span → Span
signed_sum a b = span (a.lo +ℤ b.lo) (a.hi +ℤ b.hi)

abbrev pub signed_difference : Span → Span → Span
signed_difference a b = span (a.lo -ℤ b.hi) (a.hi -ℤ b.lo)

-- divided by 2 ^ s, rounded down
abbrev pub signed_shift : Span → ℕ → Span
signed_shift a s = span (int_shr a.lo s) (int_shr a.hi s)

-- the signed range that an operator on 64 bits has of its own
abbrev pub signed_row : Width → AluOp → Ranges → Ranges → Option Span
signed_row W64 Add a b = fitting (signed_sum a.signed b.signed)
signed_row W64 Sub a b = fitting (signed_difference a.signed b.signed)
signed_row W64 Arsh a b =
    if is_single b.unsigned then Some (signed_shift a.signed (b.unsigned.lo % 64)) else None
signed_row w op a b = None

-- the numbers of a range, of which some operator tells their signed range too
abbrev pub beside : Interval → Option Span → Ranges
beside r None = spanned r
beside r (Some s) = or_else (spanned r) (some_tidied (ranges r s))
