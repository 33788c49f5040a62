-- The code that a list of placed instructions makes: after each instruction another begins, or the program ends.
use Rattle.std.proofs.Common.{◌≡◌, ℕ, zero, suc, ◌+◌, ◌<◌, List, [], ◌∷◌, ◌++◌, length, Some, None, Option, ap, sym, ◌∙◌, arith, refl, subst, inl, inr, ◌≤◌, slice_get, Bool, true, false, IsTrue, ◌↔◌}
use Rattle.std.specs.Prelude.{option_and_then}
use Rattle.std.proofs.lemmas.Bool.{cases_lt}
use Rattle.std.proofs.lemmas.Option.{slice_get_past}
use Rattle.insn_codec.specs.declared.insn.Insn.{Insn}
use Rattle.insn_codec.specs.declared.insn.Placed.{Placed}
use Rattle.machine_model.specs.Edges.{Code, Begins, insn_at}
use Rattle.flow_graph.specs.declared.onward.Onward.{Onward}
use Rattle.flow_graph.specs.declared.onward.Onward.TheVariants.{Steps, StepsWide, Jumps, Branches, Ends}
use Rattle.flow_graph.specs.Onward.{onward_of}
use Rattle.flow_graph.specs.Program.{second_slot, code_of, IsDecoded}
use Rattle.flow_graph.proofs.Onwards.{width_of, other_slot, second_is}
use Rattle.flow_graph.proofs.Joining.{IsLaid}

record Follows (code : Code) : Type 0 where
  opens : 0 < length code → Begins code 0
  next : (s : ℕ) (i : Insn) → insn_at code s ≡ Some i → s + width_of (onward_of i) < length code →
      Begins code (s + width_of (onward_of i))

begins_behind : (x : Option Insn) (c : Code) (s t : ℕ) → t ≡ suc s → Begins c s → Begins (x ∷ c) t
begins_behind x c s t e b = subst (Begins (x ∷ c)) (sym e) b

same_width : (i j : Insn) → Some i ≡ Some j → width_of (onward_of i) ≡ width_of (onward_of j)
same_width i j e = let same : i ≡ j = cc in ap (λ (k : Insn). width_of (onward_of k)) same

narrow : (i : Insn) (c : Code) → width_of (onward_of i) ≡ 1 → Follows c → Follows (Some i ∷ c)
narrow i c w f = record {
  opens = λ h. (i, refl);
  next = λ s j e h. next i c w f s j e h;
}
  where
    next : (i : Insn) (c : Code) → width_of (onward_of i) ≡ 1 → Follows c → (s : ℕ) (j : Insn) → insn_at (Some i ∷ c) s ≡ Some j →
        s + width_of (onward_of j) < length (Some i ∷ c) → Begins (Some i ∷ c) (s + width_of (onward_of j))
    next i c w f zero j e h =
        let v : width_of (onward_of j) ≡ 1 = sym (same_width i j e) ∙ w in
        let more : 0 < length c = omega arith in
        begins_behind (Some i) c 0 (0 + width_of (onward_of j)) (omega arith) (f.opens more)
    next i c w f (suc k) j e h =
        let more : k + width_of (onward_of j) < length c = omega arith in
        begins_behind (Some i) c (k + width_of (onward_of j)) (suc k + width_of (onward_of j)) (omega arith) (f.next k j e more)

wide : (i : Insn) (c : Code) → width_of (onward_of i) ≡ 2 → Follows c → Follows (Some i ∷ None ∷ c)
wide i c w f = record {
  opens = λ h. (i, refl);
  next = λ s j e h. next i c w f s j e h;
}
  where
    next : (i : Insn) (c : Code) → width_of (onward_of i) ≡ 2 → Follows c → (s : ℕ) (j : Insn) → insn_at (Some i ∷ None ∷ c) s ≡ Some j →
        s + width_of (onward_of j) < length (Some i ∷ None ∷ c) → Begins (Some i ∷ None ∷ c) (s + width_of (onward_of j))
    next i c w f zero j e h =
        let v : width_of (onward_of j) ≡ 2 = sym (same_width i j e) ∙ w in
        let more : 0 < length c = omega arith in
        begins_behind (Some i) (None ∷ c) 1 (0 + width_of (onward_of j)) (omega arith) (begins_behind None c 0 1 refl (f.opens more))
    next i c w f (suc zero) j e h = absurd (cc)
    next i c w f (suc (suc k)) j e h =
        let more : k + width_of (onward_of j) < length c = omega arith in
        begins_behind (Some i) (None ∷ c) (suc (k + width_of (onward_of j))) (suc (suc k) + width_of (onward_of j)) (omega arith)
        (begins_behind None c (k + width_of (onward_of j)) (suc (k + width_of (onward_of j))) refl (f.next k j e more))

width_is : (i : Insn) (onward : Onward) → onward_of i ≡ onward → width_of (onward_of i) ≡ width_of onward
width_is i onward e = ap width_of e

more : (i : Insn) (onward : Onward) (others c : Code) → onward_of i ≡ onward → others ≡ other_slot onward → Follows c →
    Follows (Some i ∷ (others ++ c))
more i StepsWide others c e o f = subst (λ (q : Code). Follows (Some i ∷ (q ++ c))) (sym o) (wide i c (width_is i StepsWide e) f)
more i Steps others c e o f = subst (λ (q : Code). Follows (Some i ∷ (q ++ c))) (sym o) (narrow i c (width_is i Steps e) f)
more i (Jumps offset) others c e o f = subst (λ (q : Code). Follows (Some i ∷ (q ++ c))) (sym o) (narrow i c (width_is i (Jumps offset) e) f)
more i (Branches offset) others c e o f = subst (λ (q : Code). Follows (Some i ∷ (q ++ c))) (sym o) (narrow i c (width_is i (Branches offset) e) f)
more i Ends others c e o f = subst (λ (q : Code). Follows (Some i ∷ (q ++ c))) (sym o) (narrow i c (width_is i Ends e) f)

follows : (placed : List Placed) → Follows (code_of placed)
follows [] = record { opens = λ h. absurd (omega arith); next = λ s i e h. absurd (omega arith) }
follows (p ∷ placed) = more p.insn (onward_of p.insn) (second_slot p.insn) (code_of placed) refl (second_is p.insn) (follows placed)

starts : (placed : List Placed) → 0 < length placed → 0 < length (code_of placed)
starts [] h = absurd (omega arith)
starts (p ∷ placed) h = omega arith

pub laid_of : (placed : List Placed) → IsDecoded placed → IsLaid (code_of placed)
laid_of placed d =
    let some_slot : 0 < length (code_of placed) = starts placed d.any in
    record {
      starts = some_slot;
      opens = (follows placed).opens some_slot;
      few = d.few;
      follows = (follows placed).next;
    }

pub begins_below : (code : Code) (s : ℕ) → Begins code s → s < length code
begins_below code s b = elim (cases_lt s (length code)) [
  | inl h ↦ h
  | inr h ↦ absurd (past code s h b)
]
  where
    past : (code : Code) (s : ℕ) → length code ≤ s → Begins code s → ⊥
    past code s h b =
        let e : slice_get code s ≡ None = slice_get_past code s h in
        let n : insn_at code s ≡ None = ap (λ (o : Option (Option Insn)). option_and_then (λ i. i) o) e in
        let i : insn_at code s ≡ Some b.0 = b.1 in
        cc

pub so : (b : Bool) {P : Type 0} → IsTrue b ↔ P → b ≡ true → P
so b h e = h.0 (subst IsTrue (sym e) refl)

pub not_so : (b : Bool) {P : Type 0} → IsTrue b ↔ P → b ≡ false → P → ⊥
not_so b h e p = clash b (h.1 p) e
  where
    clash : (b : Bool) → IsTrue b → b ≡ false → ⊥
    clash b t f = cc
