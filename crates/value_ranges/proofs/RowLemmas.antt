-- Each row of the table covers what its operator gives.
use Rattle.std.proofs.Common.{◌≡◌, ℕ, ◌+◌, ◌-◌, ◌*◌, ◌/◌, ◌%◌, ◌^◌, ◌<◌, ◌≤◌, arith, ◌∙◌}
use Rattle.std.proofs.lemmas.Bool.Decides.{nat_tests}
use Rattle.std.proofs.Math.Nat.{mod-eq_of_lt, mod-lt, mod-eq-sub-mod, div-le_self, div-mul-le_self, mod-le}
use Rattle.std.proofs.lemmas.Nat.{mul-le, pow_pos, le-div, mod_below, shl_whole}
use Rattle.value_ranges.specs.Interval.{Interval, Within}
use Rattle.value_ranges.specs.Ranges.{cut, sum_range, difference_range, product_range, quotient_range, remainder_range, shifted_left_range, shifted_right_range}
use Rattle.machine_model.specs.Operators.{result_of}
use Rattle.insn_codec.specs.declared.insn.AluOp.TheVariants.{Add, Sub, Mul, Div, Mod, Lsh, Rsh}

mod_once : (m x : ℕ) → m ≤ x → x < m + m → x % m ≡ x - m
mod_once m x h k = mod-eq-sub-mod h ∙ mod-eq_of_lt (omega arith)

-- a quotient grows with the dividend and shrinks with the divisor
pub div_mono : (a a' b b' : ℕ) → a ≤ a' → 0 < b' → b' ≤ b → a / b ≤ a' / b'
div_mono a a' b b' h z k =
    le-div (a / b) a' b' z (omega (arith, div-mul-le_self a b, mul-le (a / b) b' (a / b) b (omega arith) k))

pub Within-sum : (n : ℕ) (a b : Interval) (x y : ℕ) → a.hi < 2 ^ n → b.hi < 2 ^ n → Within a x → Within b y → Within (sum_range n a b) (result_of Add n x y)
Within-sum n a b x y p q h k = grind (arith, nat_tests, mod-eq_of_lt, mod_once, mod-lt)

pub Within-difference : (n : ℕ) (a b : Interval) (x y : ℕ) → a.hi < 2 ^ n → b.hi < 2 ^ n → Within a x → Within b y → Within (difference_range n a b) (result_of Sub n x y)
Within-difference n a b x y p q h k = grind (arith, nat_tests, mod-eq_of_lt, mod_once, mod-lt)

pub Within-product : (n : ℕ) (a b : Interval) (x y : ℕ) → a.hi < 2 ^ n → Within a x → Within b y → Within (product_range n a b) (result_of Mul n x y)
Within-product n a b x y p h k =
    let low : a.lo * b.lo ≤ x * y = mul-le _ _ _ _ h.0 k.0 in
    let high : x * y ≤ a.hi * b.hi = mul-le _ _ _ _ h.1 k.1 in
    let pos_m : 0 < 2 ^ n = pow_pos n in
    grind (arith, nat_tests, mod-eq_of_lt, mod-lt)

pub Within-quotient : (n : ℕ) (a b : Interval) (x y : ℕ) → Within a x → Within b y → Within (quotient_range a b) (result_of Div n x y)
Within-quotient n a b x y h k =
    let low : 0 < y → a.lo / b.hi ≤ x / y = λ z. div_mono _ _ _ _ h.0 z k.1 in
    let high : 0 < b.lo → x / y ≤ a.hi / b.lo = λ z. div_mono _ _ _ _ h.1 z k.0 in
    let self : x / y ≤ x = div-le_self x y in
    grind (arith, nat_tests)

pub Within-remainder : (n : ℕ) (a b : Interval) (x y : ℕ) → Within a x → Within b y → Within (remainder_range a b) (result_of Mod n x y)
Within-remainder n a b x y h k =
    let self : x % y ≤ x = mod-le x y in
    let below : 0 < y → x % y < y = mod_below x y in
    grind (arith, nat_tests)

pub Within-shifted_left : (n : ℕ) (a b : Interval) (x y : ℕ) → Within a x → Within b y → Within (shifted_left_range n a b) (result_of Lsh n x y)
Within-shifted_left n a b x y h k =
    let low : a.lo * 2 ^ (b.lo % n) ≤ x * 2 ^ (b.lo % n) = mul-le _ _ _ _ h.0 (omega arith) in
    let high : x * 2 ^ (b.lo % n) ≤ a.hi * 2 ^ (b.lo % n) = mul-le _ _ _ _ h.1 (omega arith) in
    let pos_m : 0 < 2 ^ n = pow_pos n in
    grind (arith, nat_tests, mod-eq_of_lt, mod-lt)

pub Within-shifted_right : (n : ℕ) (a b : Interval) (x y : ℕ) → Within a x → Within b y → Within (shifted_right_range n a b) (result_of Rsh n x y)
Within-shifted_right n a b x y h k =
    let low : a.lo / 2 ^ (b.lo % n) ≤ x / 2 ^ (b.lo % n) = div_mono _ _ _ _ h.0 (pow_pos _) (omega arith) in
    let high : x / 2 ^ (b.lo % n) ≤ a.hi / 2 ^ (b.lo % n) = div_mono _ _ _ _ h.1 (pow_pos _) (omega arith) in
    let self : x / 2 ^ (y % n) ≤ x = div-le_self _ _ in
    grind (arith, nat_tests)

-- a shift by less than 64 loses nothing in 128 bits
pub shifted_wide : (a k : ℕ) → a < 2 ^ 64 → k < 64 → (a * 2 ^ k) % 2 ^ 128 ≡ a * 2 ^ k
shifted_wide a k h z = shl_whole a 64 k 128 h (omega arith)

pub shifted_order : (a b k : ℕ) → a ≤ b → a * 2 ^ k ≤ b * 2 ^ k
shifted_order a b k h = mul-le a (2 ^ k) b (2 ^ k) h (omega arith)

pub Within-cut : (n : ℕ) (r : Interval) (x : ℕ) → Within r x → Within (cut n r) (x % 2 ^ n)
Within-cut n r x h =
    let pos_m : 0 < 2 ^ n = pow_pos n in
    grind (arith, nat_tests, mod-eq_of_lt, mod-lt)

pub cut-fits : (n : ℕ) (r : Interval) → (cut n r).hi < 2 ^ n
cut-fits n r =
    let pos_m : 0 < 2 ^ n = pow_pos n in
    let m : r.lo % 2 ^ n < 2 ^ n = mod-lt r.lo pos_m in
    grind (arith, nat_tests)
