-- Ranges of whole numbers.
use Rattle.std.specs.Prelude.{ℤ, ◌≤ℤ◌}

-- the whole numbers from lo to hi
pub record Span : Type 0 where
  pub lo : ℤ
  pub hi : ℤ

abbrev pub span : ℤ → ℤ → Span
span lo hi = record { lo = lo; hi = hi }

-- k is one of the numbers
abbrev pub Between : Span → ℤ → Type 0
Between p k = (p.lo ≤ℤ k) × (k ≤ℤ p.hi)
