-- Edges by what `Next` tells, instructions by their number, and blocks in a row.
use Rattle.std.proofs.Common.{◌≡◌, ◌⊎◌, ℕ, zero, suc, ◌+◌, ◌<◌, List, [], ◌∷◌, ◌++◌, length, map, slice_get, slice_index, slice_index_or, Option, Some, None, inl, inr, refl, sym, subst, ap, arith, ◌∙◌}
use Rattle.insn_codec.specs.declared.insn.Insn.{Insn}
use Rattle.insn_codec.specs.declared.insn.Insn.TheVariants.{Alu, Mov, MovSx, Neg, End, LoadWide, Load, Store, StoreRegister, Jump, Jump32, JumpIf, Call, Exit}
use Rattle.insn_codec.specs.declared.insn.Placed.{Placed}
use Rattle.insn_codec.specs.Spelling.{placed_from, slots_of as spelled}
use Rattle.machine_model.specs.Edges.{Always, Begins, Code, NotTaken, Taken, insn_at, leads_at}
use Rattle.machine_model.proofs.Codes.{begins_within}
use Rattle.flow_graph.specs.declared.graph.Next.TheVariants.{One, Two, Zero}
use Rattle.flow_graph.specs.Cycles.{IsJoint}
use Rattle.flow_graph.specs.Flow.{AreNext}
use Rattle.flow_graph.specs.Program.{IsDecoded, code_of, code_of_insn}
use Rattle.flow_graph.proofs.OrderLemmas.{joint_begins}
use Rattle.explain.specs.declared.blocks.Block.{Block}
use Rattle.explain.specs.Blocks.{AreBegun, IsTiled, slots_in}

-- ---- edges

none_leads : (o : Option ℕ) (s : ℕ) → o ≡ None → o ≡ Some s → ⊥
none_leads o s e f = cc

same_end : (o : Option ℕ) (s t : ℕ) → o ≡ Some s → o ≡ Some t → s ≡ t
same_end o s t e f = cc

pub joint_zero : (code : Code) (p s : ℕ) → AreNext code p Zero → IsJoint code p s → ⊥
joint_zero code p s next (fact, edge) = none_leads (leads_at code p fact) s (next.1 fact) edge

pub joint_one : (code : Code) (p s to : ℕ) → AreNext code p (One to) → IsJoint code p s → to ≡ s
joint_one code p s to next (Always, edge) = same_end (leads_at code p Always) to s next.0 edge
joint_one code p s to next (NotTaken, edge) = absurd (none_leads (leads_at code p NotTaken) s next.1 edge)
joint_one code p s to next (Taken, edge) = absurd (none_leads (leads_at code p Taken) s next.2 edge)

pub joint_two : (code : Code) (p s following to : ℕ) → AreNext code p (Two following to) → IsJoint code p s → (following ≡ s) ⊎ (to ≡ s)
joint_two code p s following to next (Always, edge) = absurd (none_leads (leads_at code p Always) s next.0 edge)
joint_two code p s following to next (NotTaken, edge) = inl (same_end (leads_at code p NotTaken) following s next.1 edge)
joint_two code p s following to next (Taken, edge) = inr (same_end (leads_at code p Taken) to s next.2 edge)

pub joint_within : (code : Code) (p s : ℕ) → IsJoint code p s → p < length code
joint_within code p s joint = begins_within code p (joint_begins code p s joint)

-- ---- instructions by their number

one_slot : (i : Insn) (rest : Code) (k m : ℕ) → m ≡ suc k → insn_at (Some i ∷ rest) m ≡ insn_at rest k
one_slot i rest k m e = ap (insn_at (Some i ∷ rest)) e

two_slots : (i : Insn) (rest : Code) (k m : ℕ) → m ≡ suc (suc k) → insn_at (Some i ∷ None ∷ rest) m ≡ insn_at rest k
two_slots i rest k m e = ap (insn_at (Some i ∷ None ∷ rest)) e

-- behind the slots of one instruction are those of the others
behind : (i : Insn) (rest : Code) (k m : ℕ) → m ≡ length (spelled i) + k → insn_at (code_of_insn i ++ rest) m ≡ insn_at rest k
behind (Alu w op dst src) rest k m e = one_slot _ rest k m (omega (arith, e))
behind (Mov w dst src) rest k m e = one_slot _ rest k m (omega (arith, e))
behind (MovSx x dst src) rest k m e = one_slot _ rest k m (omega (arith, e))
behind (Neg w dst) rest k m e = one_slot _ rest k m (omega (arith, e))
behind (End order size dst) rest k m e = one_slot _ rest k m (omega (arith, e))
behind (LoadWide dst value) rest k m e = two_slots _ rest k m (omega (arith, e))
behind (Load kind dst base offset) rest k m e = one_slot _ rest k m (omega (arith, e))
behind (Store size base offset imm) rest k m e = one_slot _ rest k m (omega (arith, e))
behind (StoreRegister size base offset src) rest k m e = one_slot _ rest k m (omega (arith, e))
behind (Jump offset) rest k m e = one_slot _ rest k m (omega (arith, e))
behind (Jump32 offset) rest k m e = one_slot _ rest k m (omega (arith, e))
behind (JumpIf w c dst src offset) rest k m e = one_slot _ rest k m (omega (arith, e))
behind (Call helper) rest k m e = one_slot _ rest k m (omega (arith, e))
behind Exit rest k m e = one_slot _ rest k m (omega (arith, e))

-- the slot of an instruction of the list, counted from the first one's
record BeginsFrom (placed : List Placed) (n s : ℕ) : Type 0 where
  slot : ℕ
  same : s ≡ n + slot
  begins : Begins (code_of placed) slot

begins_from : (insns : List Insn) (n k : ℕ) → k < length (slots_in (placed_from n insns)) → BeginsFrom (placed_from n insns) n (slice_index (slots_in (placed_from n insns)) k)
begins_from [] n k lt = absurd (omega (arith, lt))
begins_from (i ∷ insns) n zero lt = record { slot = 0; same = omega arith; begins = (i, refl) }
begins_from (i ∷ insns) n (suc k) lt =
    let rest : List Placed = placed_from (n + length (spelled i)) insns in
    let found = begins_from insns (n + length (spelled i)) k (omega (arith, lt)) in
    let start : length (spelled i) + found.slot ≡ length (spelled i) + found.slot = refl in record {
      slot = length (spelled i) + found.slot;
      same = let e = found.same in omega (arith, e);
      begins = (found.begins.0, behind i (code_of rest) found.slot (length (spelled i) + found.slot) start ∙ found.begins.1);
    }

pub all_begun : (placed : List Placed) → IsDecoded placed → AreBegun (code_of placed) (slots_in placed)
all_begun placed decoded k lt =
    let found = begins_from (map (λ one. one.insn) placed) 0 k (subst (λ (l : List Placed). k < length (slots_in l)) decoded.in_turn lt) in
    let same : found.slot ≡ slice_index (slots_in (placed_from 0 (map (λ one. one.insn) placed))) k = let e = found.same in omega (arith, e) in
    subst (λ (l : List Placed). Begins (code_of l) (slice_index (slots_in l) k)) (sym decoded.in_turn)
    (subst (Begins (code_of (placed_from 0 (map (λ one. one.insn) placed)))) same found.begins)

-- the slot of an element
pub slot_is : (placed : List Placed) (k : ℕ) (one : Placed) → slice_get placed k ≡ Some one → one.slot ≡ slice_index (slots_in placed) k
slot_is [] k one e = absurd (cc)
slot_is (first ∷ placed) zero one e = let same : first ≡ one = cc in ap (λ (p : Placed). p.slot) (sym same)
slot_is (first ∷ placed) (suc k) one e = slot_is placed k one e

-- ---- lists that get one more

pub tiled_more : (blocks : List Block) (block : Block) (from to : ℕ) → IsTiled blocks from to → block.first ≡ to → IsTiled (blocks ++ block ∷ []) from block.end
tiled_more [] block from to tiled is = (is ∙ sym tiled, refl)
tiled_more (first ∷ blocks) block from to tiled is = (tiled.0, tiled_more blocks block first.end to tiled.1 is)

pub got_of_more : {X : Type 0} (xs : List X) (x y : X) (k : ℕ) → slice_get (xs ++ x ∷ []) k ≡ Some y → (slice_get xs k ≡ Some y) ⊎ ((k ≡ length xs) × (y ≡ x))
got_of_more [] x y zero e = let same : x ≡ y = cc in inr (refl, sym same)
got_of_more [] x y (suc k) e = absurd (cc)
got_of_more (z ∷ xs) x y zero e = inl e
got_of_more (z ∷ xs) x y (suc k) e = elim (got_of_more xs x y k e) [
  | inl there ↦ inl there
  | inr last ↦ inr (ap suc last.0, last.1)
]

pub slots_long : (placed : List Placed) → length (slots_in placed) ≡ length placed
slots_long [] = refl
slots_long (one ∷ placed) = ap suc (slots_long placed)

-- the slot of an element as it is read
pub slot_read : (placed : List Placed) (k : ℕ) (d : Placed) → k < length placed → (slice_index_or placed k d).slot ≡ slice_index (slots_in placed) k
slot_read [] k d lt = absurd (omega (arith, lt))
slot_read (first ∷ placed) zero d lt = refl
slot_read (first ∷ placed) (suc k) d lt = slot_read placed k d (omega (arith, lt))
