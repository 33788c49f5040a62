-- What is known where two ways meet.
use Rattle.std.specs.Prelude.{min, max}
use Rattle.std.specs.Int.{int_min, int_max}
use Rattle.value_ranges.specs.Interval.{Interval, interval}
use Rattle.value_ranges.specs.Numbers.{Ranges, ranges, some_tidied, or_else}
use Rattle.value_ranges.specs.Span.{Span, span}
use Rattle.value_ranges.specs.declared.abs.Abs.{Abs}
use Rattle.value_ranges.specs.declared.abs.Abs.TheVariants.{Unset, Num, Stack, Part}

abbrev pub hull : Interval → Interval → Interval
hull a b = interval (min a.lo b.lo) (max a.hi b.hi)

abbrev pub span_hull : Span → Span → Span
span_hull p q = span (int_min p.lo q.lo) (int_max p.hi q.hi)

-- both ranges by themselves
abbrev pub ranges_hull : Ranges → Ranges → Ranges
ranges_hull a b = ranges (hull a.unsigned b.unsigned) (span_hull a.signed b.signed)

-- least lo and greatest hi where the kinds are the same; of numbers tidied then, unless that leaves
-- nothing
abbrev pub joined : Abs → Abs → Abs
joined (Num a) (Num b) = Num (or_else (ranges_hull a b) (some_tidied (ranges_hull a b)))
joined (Stack p) (Stack q) = Stack (span_hull p q)
joined (Part p) (Part q) = Part (span_hull p q)
joined _ _ = Unset
