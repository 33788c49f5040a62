-- Where an instruction begins, the list of a program has it.
use Rattle.std.proofs.Common.{◌≡◌, ◌⊎◌, ℕ, zero, suc, ◌+◌, List, [], ◌∷◌, ◌++◌, length, map, slice_get, Some, None, inl, inr, refl, sym, subst, ◌∙◌, arith}
use Rattle.insn_codec.specs.declared.insn.Insn.{Insn}
use Rattle.insn_codec.specs.declared.insn.Insn.TheVariants.{Alu, Mov, MovSx, Neg, End, LoadWide, Load, Store, StoreRegister, Jump, Jump32, JumpIf, Call, Exit}
use Rattle.insn_codec.specs.declared.insn.Placed.{Placed}
use Rattle.insn_codec.specs.Spelling.{placed_from, slots_of as spelled}
use Rattle.machine_model.specs.Edges.{Code, insn_at}
use Rattle.flow_graph.specs.Program.{IsDecoded, code_of, second_slot}
use Rattle.explain.specs.Lines.{IsIndex}

-- an instruction has one slot, or one more where none begins
record Widths (i : Insn) (more : Code) (n : ℕ) : Type 0 where
  slots : length (spelled i) ≡ suc (length more)
  same : second_slot i ≡ more

widths : (i : Insn) → Widths i [] 0 ⊎ Widths i (None ∷ []) 0
widths (Alu w op dst src) = inl (record { slots = refl; same = refl })
widths (Mov w dst src) = inl (record { slots = refl; same = refl })
widths (MovSx e dst src) = inl (record { slots = refl; same = refl })
widths (Neg w dst) = inl (record { slots = refl; same = refl })
widths (End order size dst) = inl (record { slots = refl; same = refl })
widths (LoadWide dst value) = inr (record { slots = refl; same = refl })
widths (Load kind dst base offset) = inl (record { slots = refl; same = refl })
widths (Store size base offset imm) = inl (record { slots = refl; same = refl })
widths (StoreRegister size base offset src) = inl (record { slots = refl; same = refl })
widths (Jump offset) = inl (record { slots = refl; same = refl })
widths (Jump32 offset) = inl (record { slots = refl; same = refl })
widths (JumpIf w c dst src offset) = inl (record { slots = refl; same = refl })
widths (Call helper) = inl (record { slots = refl; same = refl })
widths Exit = inl (record { slots = refl; same = refl })

-- an instruction of the list begins at the slot
record IsThere (placed : List Placed) (slot : ℕ) (i : Insn) : Type 0 where
  index : ℕ
  one : Placed
  there : slice_get placed index ≡ Some one
  begins : one.slot ≡ slot
  same : one.insn ≡ i

later : (first : Placed) (placed : List Placed) (slot : ℕ) (i : Insn) → IsThere placed slot i → IsThere (first ∷ placed) slot i
later first placed slot i h = record { index = suc h.index; one = h.one; there = h.there; begins = h.begins; same = h.same }

nothing : (i : Insn) → None ≡ Some i → ⊥
nothing i e = cc

there_from : (insns : List Insn) (n slot : ℕ) (i : Insn) → insn_at (code_of (placed_from n insns)) slot ≡ Some i → IsThere (placed_from n insns) (n + slot) i
there_from [] n slot i e = absurd (nothing i e)
there_from (first ∷ insns) n slot i e = elim (widths first) [
  | inl w ↦ one (λ k is. there_from insns (n + length (spelled first)) k i is) w slot
      (subst (λ (more : Code). insn_at ((Some first ∷ more) ++ code_of (placed_from (n + length (spelled first)) insns)) slot ≡ Some i) w.same e)
  | inr w ↦ two (λ k is. there_from insns (n + length (spelled first)) k i is) w slot
      (subst (λ (more : Code). insn_at ((Some first ∷ more) ++ code_of (placed_from (n + length (spelled first)) insns)) slot ≡ Some i) w.same e)
]
  where
    rest : List Placed
    rest = placed_from (n + length (spelled first)) insns

    head : (k : ℕ) → 0 ≡ k → Some first ≡ Some i → IsThere (placed_from n (first ∷ insns)) (n + k) i
    head k z is = record { index = 0; one = record { slot = n; insn = first }; there = refl; begins = omega (arith, z); same = cc }

    one : ((k : ℕ) → insn_at (code_of rest) k ≡ Some i → IsThere rest (n + length (spelled first) + k) i) → Widths first [] 0 → (k : ℕ) →
        insn_at ((Some first ∷ []) ++ code_of rest) k ≡ Some i → IsThere (placed_from n (first ∷ insns)) (n + k) i
    one next w zero is = head 0 refl is
    one next w (suc k) is =
        let same : n + length (spelled first) + k ≡ n + suc k = omega (arith, w.slots) in
        later _ rest (n + suc k) i (subst (λ (m : ℕ). IsThere rest m i) same (next k is))

    two : ((k : ℕ) → insn_at (code_of rest) k ≡ Some i → IsThere rest (n + length (spelled first) + k) i) → Widths first (None ∷ []) 0 → (k : ℕ) →
        insn_at ((Some first ∷ None ∷ []) ++ code_of rest) k ≡ Some i → IsThere (placed_from n (first ∷ insns)) (n + k) i
    two next w zero is = head 0 refl is
    two next w (suc zero) is = absurd (nothing i is)
    two next w (suc (suc k)) is =
        let same : n + length (spelled first) + k ≡ n + suc (suc k) = omega (arith, w.slots) in
        later _ rest (n + suc (suc k)) i (subst (λ (m : ℕ). IsThere rest m i) same (next k is))

pub never_between : (placed : List Placed) (slot : ℕ) (i : Insn) → IsDecoded placed → insn_at (code_of placed) slot ≡ Some i → IsIndex slot placed None → ⊥
never_between placed slot i decoded begins none =
    let h = there_from (map (λ p. p.insn) placed) 0 slot i (subst (λ (l : List Placed). insn_at (code_of l) slot ≡ Some i) decoded.in_turn begins) in
    let at : h.one.slot ≡ slot = h.begins ∙ (let e : 0 + slot ≡ slot = omega arith in e) in
    none h.index h.one (subst (λ (l : List Placed). slice_get l h.index ≡ Some h.one) (sym decoded.in_turn) h.there) at
