-- Which numbers an operator can give, from the ranges of its operands.
use Rattle.std.specs.Prelude.{ℕ, ◌≡◌, ◌≤◌, ◌+◌, ◌-◌, ◌*◌, ◌/◌, ◌%◌, ◌^◌, nat_lt, nat_le, if◌then◌else◌, min, max, ◌&&◌}
use Rattle.std.specs.Int.{leading_zeros, w64}
use Rattle.insn_codec.specs.declared.insn.AluOp.{AluOp}
use Rattle.insn_codec.specs.declared.insn.AluOp.TheVariants.{Add, Sub, Mul, Div, Sdiv, Or, And, Lsh, Rsh, Arsh, Mod, Smod, Xor}
use Rattle.value_ranges.specs.Interval.{Interval, interval, single, full, is_single}
use Rattle.machine_model.specs.Operators.{result_of, extended}

-- the low n bits of the numbers
abbrev pub cut : ℕ → Interval → Interval
cut n r = if is_single r then single (r.lo % 2 ^ n) else (if nat_lt r.hi (2 ^ n) then r else full n)

-- the least 2 ^ k - 1 that is x or more
abbrev pub ones : ℕ → ℕ
ones x = 2 ^ (64 - leading_zeros w64 x) - 1

-- y is the least number 2 ^ k - 1 that is x or more
pub record IsLeastMask (x y : ℕ) : Type 0 where
  pub form : (k : ℕ) × (y ≡ 2 ^ k - 1)
  pub above : x ≤ y
  pub least : (k : ℕ) → x ≤ 2 ^ k - 1 → y ≤ 2 ^ k - 1

abbrev pub sum_range : ℕ → Interval → Interval → Interval
sum_range n a b =
    if nat_lt (a.hi + b.hi) (2 ^ n) then interval (a.lo + b.lo) (a.hi + b.hi)
    else (if nat_le (2 ^ n) (a.lo + b.lo) then interval (a.lo + b.lo - 2 ^ n) (a.hi + b.hi - 2 ^ n)
    else full n)

abbrev pub difference_range : ℕ → Interval → Interval → Interval
difference_range n a b =
    if nat_le b.hi a.lo then interval (a.lo - b.hi) (a.hi - b.lo)
    else (if nat_lt a.hi b.lo then interval (a.lo + 2 ^ n - b.hi) (a.hi + 2 ^ n - b.lo)
    else full n)

abbrev pub product_range : ℕ → Interval → Interval → Interval
product_range n a b =
    if nat_lt (a.hi * b.hi) (2 ^ n) then interval (a.lo * b.lo) (a.hi * b.hi) else full n

abbrev pub quotient_range : Interval → Interval → Interval
quotient_range a b = if nat_le 1 b.lo then interval (a.lo / b.hi) (a.hi / b.lo) else interval 0 a.hi

abbrev pub remainder_range : Interval → Interval → Interval
remainder_range a b = if nat_le 1 b.lo then interval 0 (min a.hi (b.hi - 1)) else interval 0 a.hi

abbrev pub shifted_left_range : ℕ → Interval → Interval → Interval
shifted_left_range n a b =
    if is_single b && nat_lt (a.hi * 2 ^ (b.lo % n)) (2 ^ n)
    then interval (a.lo * 2 ^ (b.lo % n)) (a.hi * 2 ^ (b.lo % n))
    else full n

abbrev pub shifted_right_range : ℕ → Interval → Interval → Interval
shifted_right_range n a b =
    if is_single b then interval (a.lo / 2 ^ (b.lo % n)) (a.hi / 2 ^ (b.lo % n))
    else interval 0 a.hi

-- where an operand is no single value
abbrev pub row_range : AluOp → ℕ → Interval → Interval → Interval
row_range Add n a b = sum_range n a b
row_range Sub n a b = difference_range n a b
row_range Mul n a b = product_range n a b
row_range Div n a b = quotient_range a b
row_range Mod n a b = remainder_range a b
row_range And n a b = interval 0 (min a.hi b.hi)
row_range Or n a b = interval (max a.lo b.lo) (ones (max a.hi b.hi))
row_range Xor n a b = interval 0 (ones (max a.hi b.hi))
row_range Lsh n a b = shifted_left_range n a b
row_range Rsh n a b = shifted_right_range n a b
row_range Arsh n a b = if nat_lt a.hi (2 ^ (n - 1)) then shifted_right_range n a b else full n
row_range Sdiv n a b = full n
row_range Smod n a b = full n

-- for operands below 2 ^ n
abbrev pub range_of : AluOp → ℕ → Interval → Interval → Interval
range_of op n a b =
    if is_single a && is_single b then single (result_of op n a.lo b.lo) else row_range op n a b

abbrev pub extended_range : ℕ → ℕ → Interval → Interval
extended_range w n b =
    if is_single b then single (extended w n b.lo)
    else (if nat_lt b.hi (2 ^ (w - 1)) then b else full n)

abbrev pub low_range : ℕ → Interval → Interval
low_range w a =
    if is_single a then single (a.lo % 2 ^ w) else (if nat_lt a.hi (2 ^ w) then a else full w)
