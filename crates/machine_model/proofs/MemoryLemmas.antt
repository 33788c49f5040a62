-- Numbers and the bytes that stand for them.
use Rattle.std.proofs.Common.{◌≡◌, ℕ, zero, suc, ◌<◌, ◌+◌, ◌*◌, ◌%◌, ◌^◌, List, [], ◌∷◌, ◌++◌, length, take, drop, slice_index, set, slice_set, refl, sym, ap, ◌∙◌, arith, add-one}
use Rattle.std.proofs.lemmas.Nat.{pow-add}
use Rattle.machine_model.specs.Memory.{little_bytes, little_number, written}

-- so many bytes make a number of so many bits
pub little_number_small : (bytes : List ℕ) → ((i : ℕ) → slice_index bytes i < 256) → little_number bytes < 2 ^ (8 * length bytes)
little_number_small [] small = omega arith
little_number_small (b ∷ bytes) small =
    let first : b < 256 = small 0 in
    let rest = little_number_small bytes (λ i. small (suc i)) in
    let count : 8 * length (b ∷ bytes) ≡ 8 + 8 * length bytes = omega arith in
    let power : 2 ^ (8 * length (b ∷ bytes)) ≡ 256 * 2 ^ (8 * length bytes) = ap (λ n. 2 ^ n) count ∙ pow-add 2 8 (8 * length bytes) in
    omega (arith, first, rest, power)

set_taken : (memory : List ℕ) (at byte : ℕ) → at < length memory → set memory at byte ≡ take at memory ++ (byte ∷ drop (suc at) memory)
set_taken [] at byte lt = absurd (omega arith)
set_taken (m ∷ memory) zero byte lt = refl
set_taken (m ∷ memory) (suc at) byte lt = ap (λ (xs : List ℕ). m ∷ xs) (set_taken memory at byte (omega arith))

-- a byte in the place of one
set_written : (memory : List ℕ) (at byte : ℕ) → at < length memory → slice_set memory at byte ≡ written memory at (byte ∷ [])
set_written memory at byte lt =
    set_taken memory at byte lt ∙ ap (λ n. take at memory ++ (byte ∷ drop n memory)) (sym (add-one at))

-- the byte that a store of one byte puts
pub set_byte : (memory : List ℕ) (at number byte : ℕ) → at < length memory → byte ≡ number % 256 →
    slice_set memory at byte ≡ written memory at (little_bytes 1 number)
set_byte memory at number byte lt is =
    set_written memory at byte lt ∙ ap (λ b. written memory at (b ∷ [])) is
