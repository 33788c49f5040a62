-- A step over the table is eight steps by the polynomial.
use Rattle.std.proofs.Common.{◌≡◌, ℕ, zero, suc, ◌+◌, ◌*◌, ◌/◌, ◌%◌, ◌<◌, Bool, true, false, List, [], ◌∷◌, length, get_or, refl, sym, ap, ◌∙◌, arith, lit<}
use Rattle.std.specs.Prelude.{◌==◌, ◌&&◌, if◌then◌else◌, bit_xor}
use lib.Bits.{xor_assoc, xor_zero_r, xor_block, xor_comm}
use Rattle.std.proofs.lemmas.Nat.{xor_shr, xor_mod, xor_of_8}
use Rattle.std.proofs.lemmas.Bool.Decides.{nat_tests}
use Rattle.journal.specs.Checksums.{crc32_bit, crc32_eight, crc32_byte}
use Rattle.journal.specs.declared.checksum.TheConstants.{REMAINDERS}

-- ---- what stands above the low bits moves down

-- the polynomial comes in by the lowest bit alone
step : (t g : ℕ) → bit_xor t (2 * g) % 2 ≡ t % 2
step t g = let even : 2 * g % 2 ≡ 0 = omega arith in xor_mod t (2 * g) 1 ∙ (ap (bit_xor (t % 2)) even ∙ xor_zero_r (t % 2))

half : (t g : ℕ) → bit_xor t (2 * g) / 2 ≡ bit_xor (t / 2) g
half t g = let halved : 2 * g / 2 ≡ g = omega arith in xor_shr t (2 * g) 1 ∙ ap (bit_xor (t / 2)) halved

turned : (a g p : ℕ) → bit_xor (bit_xor a g) p ≡ bit_xor (bit_xor a p) g
turned a g p = xor_assoc a g p ∙ (ap (bit_xor a) (xor_comm g p) ∙ sym (xor_assoc a p g))

by_bit : (odd : Bool) (a g : ℕ)
    → (if odd then bit_xor (bit_xor a g) 0xedb88320 else bit_xor a g) ≡ bit_xor (if odd then bit_xor a 0xedb88320 else a) g
by_bit true a g = turned a g 0xedb88320
by_bit false a g = refl

bit_above : (t g n : ℕ) → n ≡ 2 * g → crc32_bit (bit_xor t n) ≡ bit_xor (crc32_bit t) g
unfolding crc32_bit
bit_above t g n e = rw (e, step t g, half t g) (by_bit (t % 2 == 1) (t / 2) g)

eight_above : (t g : ℕ) → crc32_eight (bit_xor t (256 * g)) ≡ bit_xor (crc32_eight t) g
unfolding crc32_eight
eight_above t g =
    rw (bit_above t (128 * g) (256 * g) (omega arith)) (
    rw (bit_above _ (64 * g) (128 * g) (omega arith)) (
    rw (bit_above _ (32 * g) (64 * g) (omega arith)) (
    rw (bit_above _ (16 * g) (32 * g) (omega arith)) (
    rw (bit_above _ (8 * g) (16 * g) (omega arith)) (
    rw (bit_above _ (4 * g) (8 * g) (omega arith)) (
    rw (bit_above _ (2 * g) (4 * g) (omega arith)) (
    bit_above _ g (2 * g) (omega arith))))))))

-- ---- the table

both : (a b : Bool) → (a && b) ≡ true → (a ≡ true) × (b ≡ true)
both true b h = (refl, h)
both false b h = absurd cc

equal : (a b : ℕ) → (a == b) ≡ true → a ≡ b
equal a b h = grind (arith, nat_tests)

abbrev are_remainders : ℕ → List ℕ → Bool
are_remainders byte [] = true
are_remainders byte (r ∷ rs) = (r == crc32_eight byte) && are_remainders (byte + 1) rs

remainder_at : (rs : List ℕ) (byte i : ℕ) → are_remainders byte rs ≡ true → i < length rs → get_or rs i 0 ≡ crc32_eight (byte + i)
remainder_at [] byte i h lt = absurd (omega arith)
remainder_at (r ∷ rs) byte zero h lt =
    let e : byte + 0 ≡ byte = omega arith in
    rw e (equal r (crc32_eight byte) (both _ _ h).0)
remainder_at (r ∷ rs) byte (suc i) h lt = let e : byte + suc i ≡ byte + 1 + i = omega arith in rw e (remainder_at rs (byte + 1) i (both _ _ h).1 (omega arith))

all_remainders : are_remainders 0 REMAINDERS ≡ true
unfolding crc32_eight crc32_bit
all_remainders = refl

pub is_remainder : (i : ℕ) → i < 256 → get_or REMAINDERS i 0 ≡ crc32_eight i
is_remainder i lt = let e : 0 + i ≡ i = omega arith in remainder_at REMAINDERS 0 i all_remainders lt ∙ ap crc32_eight e

-- ---- a byte

split : (r b : ℕ) → b < 256 → bit_xor r b ≡ bit_xor (bit_xor (r % 256) b) (256 * (r / 256))
split r b lt =
    let low = r % 256 in
    let high = r / 256 in
    let l = bit_xor low b in
    let is_r : r ≡ high * 256 + low = omega arith in
    let small : l < 256 = xor_of_8 low b (omega arith) lt in
    let is_b : b ≡ 0 * 256 + b = omega arith in
    let is_l : l ≡ 0 * 256 + l = omega arith in
    let left : bit_xor (high * 256 + low) (0 * 256 + b) ≡ bit_xor high 0 * 256 + l = xor_block 8 high 0 low b (omega arith) lt in
    let right : bit_xor (0 * 256 + l) (high * 256 + 0) ≡ high * 256 + bit_xor l 0 = xor_block 8 0 high l 0 small (lit< tt) in
    let same : high * 256 + 0 ≡ 256 * high = omega arith in
    ap (λ (n : ℕ). bit_xor n b) is_r ∙ (ap (bit_xor (high * 256 + low)) is_b ∙ (left ∙ (ap (λ (n : ℕ). n * 256 + l) (xor_zero_r high)
    ∙ (sym (ap (λ (n : ℕ). high * 256 + n) (xor_zero_r l)) ∙ (sym right ∙ (ap (λ (n : ℕ). bit_xor n (high * 256 + 0)) (sym is_l) ∙ ap (bit_xor l) same))))))

pub next_byte : (r b low : ℕ) → b < 256 → low ≡ bit_xor (r % 256) b → bit_xor (r / 256) (get_or REMAINDERS low 0) ≡ crc32_byte r b
unfolding crc32_byte
next_byte r b low lt is =
    let small : low < 256 = rw is (xor_of_8 (r % 256) b (omega arith) lt) in
    rw (is_remainder low small, is, split r b lt, eight_above (bit_xor (r % 256) b) (r / 256)) (xor_comm (r / 256) (crc32_eight (bit_xor (r % 256) b)))
