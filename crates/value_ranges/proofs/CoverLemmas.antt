-- What abstract values cover, for proofs of the layers above.
use Rattle.std.proofs.Common.{◌≡◌, ℕ, ℤ, ◌-◌, ◌^◌, ◌<◌, ◌≤◌, arith, refl}
use Rattle.std.proofs.lemmas.Int.{ints}
use Rattle.value_ranges.specs.Covers.{Covers}
use Rattle.value_ranges.specs.Interval.{interval}
use Rattle.value_ranges.specs.Numbers.{Ranges, Among}
use Rattle.value_ranges.specs.Span.{Span, span, Between}
use Rattle.value_ranges.specs.Words.{any_number, between, greatest, single_value}
use Rattle.value_ranges.specs.declared.abs.Abs.TheVariants.{Num, Stack, Part}
use Rattle.value_ranges.proofs.SignedLemmas.{Among-spanned}
use Rattle.machine_model.specs.Value.{Value}
use Rattle.machine_model.specs.Value as value

-- what kind of value each kind covers

pub is_number : (r : Ranges) (v : Value) → Covers (Num r) v → (n : ℕ) × (v ≡ value.Num n) × Among r n × (n < 2 ^ 64)
is_number r value.Unset h = absurd h
is_number r (value.Num n) h = (n, refl, h.0, h.1)
is_number r (value.Stack k) h = absurd h
is_number r (value.Part k) h = absurd h

pub is_stack : (p : Span) (v : Value) → Covers (Stack p) v → (k : ℤ) × (v ≡ value.Stack k) × Between p k
is_stack p value.Unset h = absurd h
is_stack p (value.Num n) h = absurd h
is_stack p (value.Stack k) h = (k, refl, h)
is_stack p (value.Part k) h = absurd h

pub is_part : (p : Span) (v : Value) → Covers (Part p) v → (k : ℤ) × (v ≡ value.Part k) × Between p k
is_part p value.Unset h = absurd h
is_part p (value.Num n) h = absurd h
is_part p (value.Stack k) h = absurd h
is_part p (value.Part k) h = (k, refl, h)

pub covers_between : (lo hi x : ℕ) → lo ≤ x → x ≤ hi → x < 2 ^ 64 → Covers (between lo hi) (value.Num x)
covers_between lo hi x h k l = (Among-spanned (interval lo hi) x l (h, k), l)

pub covers_single : (x : ℕ) → x < 2 ^ 64 → Covers (single_value x) (value.Num x)
covers_single x h = covers_between x x x (omega arith) (omega arith) h

pub covers_any : (x : ℕ) → x < 2 ^ 64 → Covers any_number (value.Num x)
covers_any x h = covers_between 0 (2 ^ 64 - 1) x (omega arith) (omega arith) h

pub between_alone : (z : ℤ) → Between (span z z) z
between_alone z = (omega (arith, ints), omega (arith, ints))

-- no covered number is over the greatest
pub under_greatest : (n : Ranges) (x : ℕ) → Covers (Num n) (value.Num x) → x ≤ greatest n
under_greatest n x h = h.0.0.1
