-- The rows of the bitwise operators, and the least mask that covers a number.
use Rattle.std.proofs.Common.{◌≡◌, ℕ, suc, ◌-◌, ◌*◌, ◌/◌, ◌^◌, ◌<◌, ◌≤◌, arith, max, inl, inr}
use Rattle.std.specs.Int.{leading_zeros, w64}
use Rattle.std.proofs.Math.Nat.{pow-le-pow_right, pow-suc}
use Rattle.std.proofs.lemmas.Bool.{cases_lt}
use Rattle.std.proofs.lemmas.Nat.{leading_length, leading_le, and_le_l, and_le_r, le_or_l, le_or_r, or_lt, xor_lt, pow_pos}
use Rattle.std.proofs.lemmas.Nat.Bits.{ones_shr}
use Rattle.value_ranges.specs.Interval.{Interval, Within}
use Rattle.machine_model.specs.Operators.{result_of}
use Rattle.value_ranges.specs.Ranges.{row_range, ones, IsLeastMask}
use Rattle.insn_codec.specs.declared.insn.AluOp.TheVariants.{And, Or, Xor}

below_ones : (x : ℕ) → x < 2 ^ 64 → x < 2 ^ (64 - leading_zeros w64 x)
below_ones x h =
    let l = leading_length 64 x h in
    let e : 64 - leading_zeros w64 x ≡ l.0 = omega (arith, l.1) in
    rw e l.2

pub Within-and : (n : ℕ) (a b : Interval) (x y : ℕ) → Within a x → Within b y → Within (row_range And n a b) (result_of And n x y)
Within-and n a b x y h k = grind (arith, and_le_l, and_le_r)

pub Within-or : (n : ℕ) (a b : Interval) (x y : ℕ) → a.hi < 2 ^ 64 → b.hi < 2 ^ 64 → Within a x → Within b y → Within (row_range Or n a b) (result_of Or n x y)
Within-or n a b x y p q h k =
    let above = below_ones (max a.hi b.hi) (omega arith) in
    let most = or_lt (64 - leading_zeros w64 (max a.hi b.hi)) x y (omega arith) (omega arith) in
    (omega (arith, le_or_l x y, le_or_r x y), omega arith)

pub Within-xor : (n : ℕ) (a b : Interval) (x y : ℕ) → a.hi < 2 ^ 64 → b.hi < 2 ^ 64 → Within a x → Within b y → Within (row_range Xor n a b) (result_of Xor n x y)
Within-xor n a b x y p q h k =
    let above = below_ones (max a.hi b.hi) (omega arith) in
    let most = xor_lt (64 - leading_zeros w64 (max a.hi b.hi)) x y (omega arith) (omega arith) in
    (omega arith, omega arith)

-- a smaller power has a smaller exponent
no_more : (i j : ℕ) → 2 ^ i < 2 ^ suc j → i ≤ j
no_more i j h =
    elim (cases_lt j i) [ inl k ↦ absurd (omega (arith, h, pow-le-pow_right {n = 2} (omega arith) {i = suc j} {j = i} k)) | inr k ↦ k ]

-- `ones` is the least mask: the power is at most 2 * x + 1
least_ones : (x j : ℕ) → x < 2 ^ 64 → x < 2 ^ j → 2 ^ (64 - leading_zeros w64 x) ≤ 2 ^ j
least_ones x j h k =
    let l = leading_length 64 x h in
    let e : 64 - leading_zeros w64 x ≡ l.0 = omega (arith, l.1) in
    let d : 2 ^ suc j ≡ 2 ^ j * 2 = pow-suc 2 j in
    rw e (pow-le-pow_right {n = 2} (omega arith) (no_more l.0 j (omega (arith, l.3, k))))

pub IsLeastMask-ones : (x y : ℕ) → x < 2 ^ 64 → y ≡ ones x → IsLeastMask x y
IsLeastMask-ones x y h e = record {
  form = (64 - leading_zeros w64 x, e);
  above = omega (arith, below_ones x h);
  least = λ k b. omega (arith, least_ones x k h (omega (arith, pow_pos k)));
}

-- what `u64::MAX >> k` gives, and that a count of leading zeros is such a k
pub max_shr : (x k : ℕ) → k ≡ leading_zeros w64 x → 18446744073709551615 / 2 ^ k ≡ 2 ^ (64 - k) - 1
max_shr x k e = ones_shr 64 k (omega (arith, leading_le 64 x))

pub leading_most : (x : ℕ) → leading_zeros w64 x ≤ 64
leading_most x = leading_le 64 x

pub is_least_mask : (x y : ℕ) → x < 2 ^ 64 → y ≡ ones x → IsLeastMask x y
is_least_mask x y h e = IsLeastMask-ones x y h e
