-- The whole table covers what the operators give.
use Rattle.std.proofs.Common.{◌≡◌, ℕ, ◌-◌, ◌/◌, ◌%◌, ◌^◌, ◌<◌, ◌≤◌, arith}
use Rattle.std.specs.Int.{int_shr}
use Rattle.std.proofs.lemmas.Bool.Decides.{nat_tests}
use Rattle.std.proofs.Math.Nat.{mod-eq_of_lt, div-le_self, pow-le-pow_right}
use Rattle.value_ranges.specs.Interval.{Interval, Within}
use Rattle.machine_model.specs.Operators.{bits_of, result_of, residue, signed}
use Rattle.machine_model.specs.Outcomes.{number_result}
use Rattle.value_ranges.specs.Ranges.{cut, row_range, range_of}
use Rattle.value_ranges.specs.Tables.{number_range}
use Rattle.insn_codec.specs.declared.insn.Width.{Width}
use Rattle.insn_codec.specs.declared.insn.AluOp.{AluOp}
use Rattle.insn_codec.specs.declared.insn.AluOp.TheVariants.{Add, Sub, Mul, Div, Sdiv, Or, And, Lsh, Rsh, Arsh, Mod, Smod, Xor}
use Rattle.value_ranges.proofs.RowLemmas.{Within-sum, Within-difference, Within-product, Within-quotient, Within-remainder, Within-shifted_left, Within-shifted_right, Within-cut, cut-fits}
use Rattle.value_ranges.proofs.BitRows.{Within-and, Within-or, Within-xor}
use Rattle.machine_model.proofs.OperatorLemmas.{residue-lt, signed-small, bits_of-le, below_64}

half_pow : (n : ℕ) → 2 ^ (n - 1) ≤ 2 ^ n
half_pow n = pow-le-pow_right {n = 2} (omega arith) {i = n - 1} {j = n} (omega arith)

-- a shift of a number that is not negative
residue_shr : (n x s : ℕ) → x < 2 ^ (n - 1) → residue n (int_shr (signed n x) s) ≡ x / 2 ^ s
residue_shr n x s h =
    rw (signed-small n x h) (mod-eq_of_lt (omega (arith, div-le_self x (2 ^ s), half_pow n)))

Within-shifted_right_signed : (n : ℕ) (a b : Interval) (x y : ℕ) → Within a x → Within b y → Within (row_range Arsh n a b) (result_of Arsh n x y)
Within-shifted_right_signed n a b x y h k =
    let plain = Within-shifted_right n a b x y h k in
    let same : x < 2 ^ (n - 1) → result_of Arsh n x y ≡ x / 2 ^ (y % n) = residue_shr n x (y % n) in
    let most = residue-lt n (int_shr (signed n x) (y % n)) in
    grind (arith, nat_tests)

Within-row : (op : AluOp) (n : ℕ) (a b : Interval) (x y : ℕ) → n ≤ 64 → a.hi < 2 ^ n → b.hi < 2 ^ n → Within a x → Within b y → Within (row_range op n a b) (result_of op n x y)
Within-row Add n a b x y w p q h k = Within-sum n a b x y p q h k
Within-row Sub n a b x y w p q h k = Within-difference n a b x y p q h k
Within-row Mul n a b x y w p q h k = Within-product n a b x y p h k
Within-row Div n a b x y w p q h k = Within-quotient n a b x y h k
Within-row Mod n a b x y w p q h k = Within-remainder n a b x y h k
Within-row And n a b x y w p q h k = Within-and n a b x y h k
Within-row Or n a b x y w p q h k = Within-or n a b x y (below_64 n _ w p) (below_64 n _ w q) h k
Within-row Xor n a b x y w p q h k = Within-xor n a b x y (below_64 n _ w p) (below_64 n _ w q) h k
Within-row Lsh n a b x y w p q h k = Within-shifted_left n a b x y h k
Within-row Rsh n a b x y w p q h k = Within-shifted_right n a b x y h k
Within-row Arsh n a b x y w p q h k = Within-shifted_right_signed n a b x y h k
Within-row Sdiv n a b x y w p q h k =
    let most = residue-lt n in
    grind (arith, nat_tests)
Within-row Smod n a b x y w p q h k =
    let most = residue-lt n in
    grind (arith, nat_tests)

Within-range : (op : AluOp) (n : ℕ) (a b : Interval) (x y : ℕ) → n ≤ 64 → a.hi < 2 ^ n → b.hi < 2 ^ n → Within a x → Within b y → Within (range_of op n a b) (result_of op n x y)
Within-range op n a b x y w p q h k =
    let row = Within-row op n a b x y w p q h k in
    let same : a.lo ≡ a.hi → b.lo ≡ b.hi → result_of op n a.lo b.lo ≡ result_of op n x y =
    λ e f. let i : a.lo ≡ x = omega arith in let j : b.lo ≡ y = omega arith in cc in
    grind (arith, nat_tests)

pub Within-number_range : (w : Width) (op : AluOp) (a b : Interval) (x y : ℕ) → Within a x → Within b y → Within (number_range w op a b) (number_result w op x y)
Within-number_range w op a b x y h k =
    let n = bits_of w in
    Within-range op n (cut n a) (cut n b) (x % 2 ^ n) (y % 2 ^ n) (bits_of-le w) (cut-fits n a) (cut-fits n b) (Within-cut n a x h) (Within-cut n b y k)
