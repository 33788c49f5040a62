-- Bytes that are put into a buffer as far as it reaches.
use Rattle.std.proofs.Common.{◌≡◌, ℕ, ◌≤◌, ◌+◌, ◌-◌, List, [], length, take, drop, ◌++◌, sym, ◌∙◌, arith, ap, append-nil}
use Rattle.std.proofs.lemmas.Grind.{common_steps}
use Rattle.std.proofs.Math.Seq.{take-append-add}
use Rattle.std.proofs.lemmas.List.{take-append-le, length-take-le}
use Rattle.machine_model.specs.Memory.{written}

pub written_past : (buffer : List ℕ) (base : ℕ) (bytes : List ℕ) → length buffer ≤ base → buffer ≡ take (length buffer) (written buffer base bytes)
written_past buffer base bytes past = grind (arith, common_steps)

pub written_inside : (buffer : List ℕ) (base : ℕ) (bytes : List ℕ) → base + length bytes ≤ length buffer →
    written buffer base bytes ≡ take (length buffer) (written buffer base bytes)
written_inside buffer base bytes inside = grind (arith, common_steps)

none_past : (buffer : List ℕ) (at : ℕ) → length buffer ≤ at → drop at buffer ≡ []
none_past buffer at past = grind (arith, common_steps)

pub written_across : (buffer : List ℕ) (base : ℕ) (bytes : List ℕ) → base ≤ length buffer → length buffer ≤ base + length bytes →
    written buffer base (take (length buffer - base) bytes) ≡ take (length buffer) (written buffer base bytes)
written_across buffer base bytes inside across =
    let room = length buffer - base in
    let short : length (take room bytes) ≡ room = length-take-le room bytes (omega arith) in
    let front : length (take base buffer) ≡ base = length-take-le base buffer inside in
    let nothing : drop (base + length (take room bytes)) buffer ≡ [] = none_past buffer (base + length (take room bytes)) (omega (arith, short)) in
    let whole : length buffer ≡ length (take base buffer) + room = omega (arith, front) in
    ap (λ (ys : List ℕ). take base buffer ++ (take room bytes ++ ys)) nothing
    ∙ ap (λ (ys : List ℕ). take base buffer ++ ys) (append-nil (take room bytes))
    ∙ sym (
    ap (λ n. take n (written buffer base bytes)) whole
    ∙ take-append-add (take base buffer) (bytes ++ drop (base + length bytes) buffer) room
    ∙ ap (λ (ys : List ℕ). take base buffer ++ ys) (take-append-le room bytes (drop (base + length bytes) buffer) (omega arith)))
