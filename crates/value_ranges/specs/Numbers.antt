-- Numbers of 64 bits of which two ranges are known: one of the numbers as they are, one of their
-- signed readings.
use Rattle.std.specs.Prelude.{ℕ, pos, ◌-ℤ◌, neg_ℤ, ◌-◌, ◌^◌, nat_lt, nat_le, int_le, int_lt, ◌&&◌, ◌||◌, if◌then◌else◌, min, max, Option, Some, None}
use Rattle.std.specs.Int.{int_min, int_max}
use Rattle.machine_model.specs.Operators.{signed, residue}
use Rattle.value_ranges.specs.Interval.{Interval, interval, Within}
use Rattle.value_ranges.specs.Span.{Span, span, Between}

pub record Ranges : Type 0 where
  pub unsigned : Interval
  pub signed : Span

abbrev pub ranges : Interval → Span → Ranges
ranges r s = record { unsigned = r; signed = s }

-- x is one of the numbers
abbrev pub Among : Ranges → ℕ → Type 0
Among n x = Within n.unsigned x × Between n.signed (signed 64 x)

-- the signed readings of the numbers of a range: those from the one end's to the other's, or any
-- where they have both signs
abbrev pub span_of : Interval → Span
span_of r =
    if nat_lt r.hi (2 ^ 63) then span (pos r.lo) (pos r.hi)
    else (if nat_le (2 ^ 63) r.lo then span (pos r.lo -ℤ pos (2 ^ 64)) (pos r.hi -ℤ pos (2 ^ 64))
    else span (neg_ℤ (pos (2 ^ 63))) (pos (2 ^ 63 - 1)))

-- the numbers of a range
abbrev pub spanned : Interval → Ranges
spanned r = ranges r (span_of r)

-- the numbers of both
abbrev pub meet : Span → Span → Span
meet p q = span (int_max p.lo q.lo) (int_min p.hi q.hi)

-- unless it is empty
abbrev pub some_span : Span → Option Span
some_span s = if int_le s.lo s.hi then Some s else None

-- the signed range is cut to the readings of the unsigned one
abbrev pub cut_signed : Ranges → Ranges
cut_signed n = ranges n.unsigned (meet n.signed (span_of n.unsigned))

-- the unsigned range is cut to the numbers that read as those of the signed one, where these have
-- one sign
abbrev pub cut_unsigned : Ranges → Ranges
cut_unsigned n =
    if int_le (pos 0) n.signed.lo || int_lt n.signed.hi (pos 0)
    then ranges (interval (max n.unsigned.lo (residue 64 n.signed.lo))
    (min n.unsigned.hi (residue 64 n.signed.hi))) n.signed
    else n

-- each range cut to what the other one tells
abbrev pub tidied : Ranges → Ranges
tidied n = cut_signed (cut_unsigned (cut_signed n))

-- unless one of the ranges is empty
abbrev pub nonempty : Ranges → Option Ranges
nonempty n = if nat_le n.unsigned.lo n.unsigned.hi && int_le n.signed.lo n.signed.hi then Some n
    else None

unfoldable pub some_tidied : Ranges → Option Ranges
some_tidied n = nonempty (tidied n)

-- m, or n where there is none
abbrev pub or_else : Ranges → Option Ranges → Ranges
or_else n None = n
or_else n (Some m) = m
