-- The bytes of tasks that each stand where they belong, joined.
use Rattle.std.proofs.Common.{◌≡◌, ℕ, ◌<◌, ◌≤◌, ◌+◌, ◌-◌, ◌⊎◌, inl, inr, List, [], ◌∷◌, ◌++◌, get_or, length, take, drop, refl, sym, ◌∙◌, arith, ap, subst, Bool, true, false, nat_lt}
use Rattle.std.specs.Prelude.{All, Contains}
use Rattle.std.proofs.lemmas.List.{length-take-le, length-replicate, get_or-take, get_or-drop, get_or_append_left, get_or-append-add, ext_get_or}
use Rattle.std.proofs.lemmas.List.Elements.{All-head, All-tail, Contains-append_cases}
use Rattle.std.proofs.lemmas.Bool.Decides.{nat_tests}
use Rattle.machine_model.specs.Memory.{written}
use Rattle.task_trees.specs.Eval.{Finished}
use Rattle.task_trees.specs.Answer.{joined_bytes}
use Rattle.machine_model.proofs.Ranges.{length-written}

-- a task's bytes are those of the buffer at its base
pub record IsPiece (buffer : List ℕ) (f : Finished) : Type 0 where
  pub inside : f.ending.base + length f.bytes ≤ length buffer
  pub bytes : (k : ℕ) → k < length f.bytes → get_or f.bytes k 0 ≡ get_or buffer (f.ending.base + k) 0

-- the place is in the task's range
pub record IsIn (f : Finished) (at : ℕ) : Type 0 where
  pub low : f.ending.base ≤ at
  pub high : at < f.ending.base + length f.bytes

length-joined : (buffer : List ℕ) (fs : List Finished) → All (IsPiece buffer) fs → length (joined_bytes (length buffer) fs) ≡ length buffer
length-joined buffer [] all = length-replicate (length buffer) 0
length-joined buffer (f ∷ fs) all =
    let ih = length-joined buffer fs (All-tail (IsPiece buffer) f fs all) in
    let piece = All-head (IsPiece buffer) f fs all in
    let inside = piece.inside in
    length-written (joined_bytes (length buffer) fs) f.ending.base f.bytes (omega (arith, ih, inside)) ∙ ih

written_in : (memory : List ℕ) (base : ℕ) (bytes : List ℕ) (k : ℕ) → base + length bytes ≤ length memory → k < length bytes →
    get_or (written memory base bytes) (base + k) 0 ≡ get_or bytes k 0
written_in memory base bytes k inside lt =
    let front : length (take base memory) ≡ base = length-take-le base memory (omega (arith, inside)) in
    let start : base + k ≡ length (take base memory) + k = omega (arith, front) in
    ap (λ (i : ℕ). get_or (written memory base bytes) i 0) start
    ∙ get_or-append-add (take base memory) (bytes ++ drop (base + length bytes) memory) k 0
    ∙ get_or_append_left bytes (drop (base + length bytes) memory) 0 k lt

written_before : (memory : List ℕ) (base : ℕ) (bytes : List ℕ) (at : ℕ) → base + length bytes ≤ length memory → at < base →
    get_or (written memory base bytes) at 0 ≡ get_or memory at 0
written_before memory base bytes at inside lt =
    let front : length (take base memory) ≡ base = length-take-le base memory (omega (arith, inside)) in
    get_or_append_left (take base memory) (bytes ++ drop (base + length bytes) memory) 0 at (omega (arith, front, lt))
    ∙ get_or-take base memory at 0 lt

written_after : (memory : List ℕ) (base : ℕ) (bytes : List ℕ) (k : ℕ) → base + length bytes ≤ length memory →
    get_or (written memory base bytes) (base + length bytes + k) 0 ≡ get_or memory (base + length bytes + k) 0
written_after memory base bytes k inside =
    let front : length (take base memory) ≡ base = length-take-le base memory (omega (arith, inside)) in
    let start : base + length bytes + k ≡ length (take base memory) + (length bytes + k) = omega (arith, front) in
    ap (λ (i : ℕ). get_or (written memory base bytes) i 0) start
    ∙ get_or-append-add (take base memory) (bytes ++ drop (base + length bytes) memory) (length bytes + k) 0
    ∙ get_or-append-add bytes (drop (base + length bytes) memory) k 0
    ∙ get_or-drop (base + length bytes) memory k 0

-- the place is in one of the tasks' ranges
abbrev pub Covers : List Finished → ℕ → Type 0
Covers [] at = ⊥
Covers (f ∷ fs) at = IsIn f at ⊎ Covers fs at

one_alone : (g f : Finished) → Contains (g ∷ []) f → g ≡ f
one_alone g f c =
    let zero_is : c.0 ≡ 0 = let lt = c.1 in omega (arith, lt) in
    ap (λ (i : ℕ). get_or (g ∷ []) i f) (sym zero_is) ∙ c.2

pub covers : (fs : List Finished) (f : Finished) (at : ℕ) → Contains fs f → IsIn f at → Covers fs at
covers [] f at c is = let lt = c.1 in absurd (omega (arith, lt))
covers (g ∷ gs) f at c is =
    elim (Contains-append_cases (g ∷ []) gs f c) [
      | inl here ↦ inl (subst (λ (x : Finished). IsIn x at) (sym (one_alone g f here)) is)
      | inr later ↦ inr (covers gs f at later is)
    ]

module _ (buffer : List ℕ) where
  -- one more piece: the place is below it, in it or past it
  module _ (f : Finished) (fs : List Finished) (at : ℕ) (all : All (IsPiece buffer) (f ∷ fs)) (c : Covers (f ∷ fs) at)
      (later : Covers fs at → get_or (joined_bytes (length buffer) fs) at 0 ≡ get_or buffer at 0) where
    fits : f.ending.base + length f.bytes ≤ length (joined_bytes (length buffer) fs)
    fits =
        let long = length-joined buffer fs (All-tail (IsPiece buffer) f fs all) in
        let inside = (All-head (IsPiece buffer) f fs all).inside in omega (arith, long, inside)

    above : (t : Bool) → nat_lt at (f.ending.base + length f.bytes) ≡ t → f.ending.base ≤ at →
        get_or (joined_bytes (length buffer) (f ∷ fs)) at 0 ≡ get_or buffer at 0
    above true t le =
        let lt : at < f.ending.base + length f.bytes = grind (arith, nat_tests) in
        let piece = All-head (IsPiece buffer) f fs all in
        let split : at ≡ f.ending.base + (at - f.ending.base) = omega (arith, le) in
        let in_bytes : at - f.ending.base < length f.bytes = omega (arith, le, lt) in
        ap (λ (i : ℕ). get_or (joined_bytes (length buffer) (f ∷ fs)) i 0) split
        ∙ written_in (joined_bytes (length buffer) fs) f.ending.base f.bytes (at - f.ending.base) fits in_bytes
        ∙ piece.bytes (at - f.ending.base) in_bytes
        ∙ ap (λ (i : ℕ). get_or buffer i 0) (sym split)
    above false t le =
        let past : f.ending.base + length f.bytes ≤ at = grind (arith, nat_tests) in
        let split : at ≡ f.ending.base + length f.bytes + (at - (f.ending.base + length f.bytes)) = omega (arith, past) in
        ap (λ (i : ℕ). get_or (joined_bytes (length buffer) (f ∷ fs)) i 0) split
        ∙ written_after (joined_bytes (length buffer) fs) f.ending.base f.bytes (at - (f.ending.base + length f.bytes)) fits
        ∙ ap (λ (i : ℕ). get_or (joined_bytes (length buffer) fs) i 0) (sym split)
        ∙ later (elim c [ inl i ↦ let high = i.high in absurd (omega (arith, high, past)) | inr there ↦ there ])

    below : (t : Bool) → nat_lt at f.ending.base ≡ t → get_or (joined_bytes (length buffer) (f ∷ fs)) at 0 ≡ get_or buffer at 0
    below true t =
        let lt : at < f.ending.base = grind (arith, nat_tests) in
        written_before (joined_bytes (length buffer) fs) f.ending.base f.bytes at fits lt
        ∙ later (elim c [ inl i ↦ let low = i.low in absurd (omega (arith, low, lt)) | inr there ↦ there ])
    below false t =
        let le : f.ending.base ≤ at = grind (arith, nat_tests) in
        above (nat_lt at (f.ending.base + length f.bytes)) refl le

  joined_at : (fs : List Finished) (at : ℕ) → All (IsPiece buffer) fs → Covers fs at → get_or (joined_bytes (length buffer) fs) at 0 ≡ get_or buffer at 0
  joined_at [] at all c = absurd c
  joined_at (f ∷ fs) at all c =
      below f fs at all c (λ d. joined_at fs at (All-tail (IsPiece buffer) f fs all) d) (nat_lt at f.ending.base) refl

  -- where each byte of the buffer is in one of their ranges, the tasks' bytes joined are the buffer
  pub joined_is : (fs : List Finished) → All (IsPiece buffer) fs → ((at : ℕ) → at < length buffer → Covers fs at) →
      buffer ≡ joined_bytes (length buffer) fs
  joined_is fs all each =
      ext_get_or 0 buffer (joined_bytes (length buffer) fs) (sym (length-joined buffer fs all)) (λ at lt. sym (joined_at fs at all (each at lt)))
