-- What a decoder gives is what `build` asks for.
use Rattle.std.proofs.Common.{◌≡◌, ℕ, ◌+◌, ◌*◌, ◌≤◌, ◌<◌, List, [], ◌∷◌, ◌++◌, length, length-append, map, sym, arith, subst, refl}
use Rattle.insn_codec.specs.declared.insn.Insn.{Insn}
use Rattle.insn_codec.specs.declared.insn.Insn.TheVariants.{Alu, Mov, MovSx, Neg, End, LoadWide, Load, Store, StoreRegister, Jump, Jump32, JumpIf, Call, Exit}
use Rattle.insn_codec.specs.declared.insn.Placed.{Placed}
use Rattle.insn_codec.specs.Spelling.{other_slots, spelling, spellings, IsProgram, slots_of as spelled}
use Rattle.insn_codec.proofs.Bytes.{length-spelling}
use Rattle.flow_graph.specs.Program.{code_of_insn, second_slot, code_of, IsDecoded}

-- an instruction has as many slots as its spelling
as_many : (i : Insn) → length (other_slots i) ≡ length (second_slot i)
as_many (Alu w op dst src) = refl
as_many (Mov w dst src) = refl
as_many (MovSx e dst src) = refl
as_many (Neg w dst) = refl
as_many (End order size dst) = refl
as_many (LoadWide dst value) = refl
as_many (Load kind dst base offset) = refl
as_many (Store size base offset imm) = refl
as_many (StoreRegister size base offset src) = refl
as_many (Jump offset) = refl
as_many (Jump32 offset) = refl
as_many (JumpIf w c dst src offset) = refl
as_many (Call helper) = refl
as_many Exit = refl

-- a slot has eight bytes
eight : (placed : List Placed) → length (spellings (map (λ p. p.insn) placed)) ≡ 8 * length (code_of placed)
eight [] = refl
eight (p ∷ placed) =
    let e = as_many p.insn in
    let own : length (spelling p.insn) ≡ 8 * length (spelled p.insn) = length-spelling p.insn in
    let left : length (spelling p.insn ++ spellings (map (λ q. q.insn) placed)) ≡ length (spelling p.insn) + length (spellings (map (λ q. q.insn) placed)) =
    length-append (spelling p.insn) (spellings (map (λ q. q.insn) placed)) in
    let right : length (code_of_insn p.insn ++ code_of placed) ≡ length (code_of_insn p.insn) + length (code_of placed) =
    length-append (code_of_insn p.insn) (code_of placed) in
    let others : length (spellings (map (λ q. q.insn) placed)) ≡ 8 * length (code_of placed) = eight placed in
    omega arith

any_of : (placed : List Placed) → 0 < length (code_of placed) → 0 < length placed
any_of [] h = h
any_of (p ∷ placed) h = omega arith

pub decoded_of : (placed : List Placed) (bytes : List ℕ) → IsProgram placed bytes → IsDecoded placed
decoded_of placed bytes h =
    let long : length bytes ≡ 8 * length (code_of placed) = subst (λ (b : List ℕ). length b ≡ 8 * length (code_of placed)) (sym h.spelled) (eight placed) in
    let some_bytes : 0 < length bytes = h.whole.some in
    let short : length bytes ≤ 32768 = h.whole.short in
    record {
      any = any_of placed (omega arith);
      in_turn = h.slots;
      few = omega arith;
    }
