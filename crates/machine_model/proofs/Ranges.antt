-- What a range of the buffer is after a write to a range.
use Rattle.std.proofs.Common.{◌≡◌, ℕ, zero, suc, ◌≤◌, ◌+◌, ◌-◌, ◌/◌, List, length, take, drop, ◌++◌, refl, sym, ◌∙◌, arith, ap, length-take, length-drop}
use Rattle.std.proofs.lemmas.List.{drop-append-le, take-append-le, take-take, drop-take, drop-drop}
use Rattle.std.proofs.lemmas.Grind.{common_steps}
use Rattle.machine_model.specs.Memory.{written, little_bytes}

pub written_same : (buffer : List ℕ) (base : ℕ) (bytes : List ℕ) → base + length bytes ≤ length buffer →
    take (length bytes) (drop base (written buffer base bytes)) ≡ bytes
written_same buffer base bytes fits = grind (arith, common_steps)

pub written_below : (buffer : List ℕ) (base : ℕ) (bytes : List ℕ) (low size : ℕ) → base + length bytes ≤ length buffer →
    low + size ≤ base → take size (drop low (written buffer base bytes)) ≡ take size (drop low buffer)
written_below buffer base bytes low size fits below =
    let front : length (take base buffer) ≡ base = omega (arith, length-take base buffer) in
    let split : base ≡ low + (base - low) = omega arith in
    ap (take size) (drop-append-le low (take base buffer) (bytes ++ drop (base + length bytes) buffer) (omega (arith, front)))
    ∙ take-append-le size (drop low (take base buffer)) (bytes ++ drop (base + length bytes) buffer)
    (omega (arith, front, length-drop low (take base buffer)))
    ∙ ap (take size) (ap (λ n. drop low (take n buffer)) split ∙ drop-take low (base - low) buffer)
    ∙ take-take size (base - low) (drop low buffer) (omega arith)

after_written : (buffer : List ℕ) (base : ℕ) (bytes : List ℕ) → base + length bytes ≤ length buffer →
    drop (base + length bytes) (written buffer base bytes) ≡ drop (base + length bytes) buffer
after_written buffer base bytes fits =
    let rest : drop base (written buffer base bytes) ≡ bytes ++ drop (base + length bytes) buffer = grind (arith, common_steps) in
    let back : drop (length bytes) (bytes ++ drop (base + length bytes) buffer) ≡ drop (base + length bytes) buffer = grind (arith, common_steps) in
    sym (drop-drop (length bytes) base (written buffer base bytes)) ∙ ap (drop (length bytes)) rest ∙ back

pub written_above : (buffer : List ℕ) (base : ℕ) (bytes : List ℕ) (high : ℕ) → base + length bytes ≤ length buffer →
    base + length bytes ≤ high → drop high (written buffer base bytes) ≡ drop high buffer
written_above buffer base bytes high fits above =
    let split : high ≡ base + length bytes + (high - (base + length bytes)) = omega arith in
    ap (λ n. drop n (written buffer base bytes)) split
    ∙ sym (drop-drop (high - (base + length bytes)) (base + length bytes) (written buffer base bytes))
    ∙ ap (drop (high - (base + length bytes))) (after_written buffer base bytes fits)
    ∙ drop-drop (high - (base + length bytes)) (base + length bytes) buffer
    ∙ ap (λ n. drop n buffer) (sym split)

pub length-written : (buffer : List ℕ) (base : ℕ) (bytes : List ℕ) → base + length bytes ≤ length buffer →
    length (written buffer base bytes) ≡ length buffer
length-written buffer base bytes fits = grind (arith, common_steps)

pub length-little_bytes : (count number : ℕ) → length (little_bytes count number) ≡ count
length-little_bytes zero number = refl
length-little_bytes (suc count) number = ap suc (length-little_bytes count (number / 256))
