-- The bytes of a program have no fault.
use Rattle.std.proofs.Common.{true, ◌≤◌, ◌≡◌, ℕ, ◌/◌, ◌^◌, ◌<◌, false, List, [], ◌∷◌, ◌++◌, length, Option, Some, None, refl, sym, ap, subst, ◌∙◌, append_assoc, arith, inl, inr}
use Rattle.std.specs.Prelude.{unwrap_or, is_some}
use Rattle.std.specs.List.{flat_map, AllByRecursion}
use Rattle.insn_codec.specs.declared.slot.Slot.{Slot}
use Rattle.insn_codec.specs.declared.insn.Operand.{Operand}
use Rattle.insn_codec.specs.declared.insn.Operand.TheVariants as operand
use Rattle.insn_codec.specs.declared.insn.Insn.{Insn}
use Rattle.insn_codec.specs.declared.insn.Insn.TheVariants.{Alu, Mov, Neg, MovSx, End, LoadWide, Load, Store, StoreRegister, Jump, Jump32, JumpIf, Call, Exit}
use Rattle.insn_codec.specs.declared.operation.Operation.{Operation}
use Rattle.insn_codec.specs.declared.operation.Operation.TheVariants as row
use Rattle.insn_codec.specs.declared.decoder.SlotFault.{SlotFault}
use Rattle.insn_codec.specs.declared.decoder.SlotFault.TheVariants as step
use Rattle.insn_codec.specs.declared.fault.CodecFault.{CodecFault}
use Rattle.insn_codec.specs.declared.fault.CodecFault.TheVariants as fault
use Rattle.insn_codec.specs.Layout.{slot_bytes, slot_at}
use Rattle.insn_codec.specs.Table.{is_register, is_imm, selecting_offset, uses_of, IsRow, RegistersAreNamed, UnusedAreZero}
use Rattle.insn_codec.specs.Spelling.{first_slot, row_of, operand_source, operand_src, operand_imm, IsOperand, other_slots, half, spelling, spellings, IsInsn, IsAt, IsWhole, IsRefusal}
use Rattle.insn_codec.specs.Steps.{StepFault}
use Rattle.insn_codec.proofs.OneSpelling.{fields_again, high_of, is_row, one_row, fits_slot, high_fits, one_spelling}

none_zero : (o : Option ℕ) → is_some o ≡ false → unwrap_or o 0 ≡ 0
none_zero None e = refl
none_zero (Some n) e = cc

src_named : (src : Operand) → IsOperand src → is_register (operand_source src) ≡ true → operand_src src ≤ 10
src_named (operand.Imm imm) h e = omega arith
src_named (operand.Reg src) h e = h

src_zero : (src : Operand) → is_register (operand_source src) ≡ false → operand_src src ≡ 0
src_zero (operand.Imm imm) e = refl
src_zero (operand.Reg src) e = absurd cc

imm_zero : (src : Operand) → is_imm (operand_source src) ≡ false → operand_imm src ≡ 0
imm_zero (operand.Imm imm) e = absurd cc
imm_zero (operand.Reg src) e = refl

named_ok : (insn : Insn) → IsInsn insn → RegistersAreNamed (uses_of (row_of insn)) (first_slot insn)
named_ok (Alu w op dst src) h = record { dst = λ e. h.0; src = src_named src h.1 }
named_ok (Mov w dst src) h = record { dst = λ e. h.0; src = src_named src h.1 }
named_ok (Neg w dst) h = record { dst = λ e. h; src = λ e. omega arith }
named_ok (MovSx x dst src) h = record { dst = λ e. h.0; src = λ e. h.1 }
named_ok (End order size dst) h = record { dst = λ e. h; src = λ e. omega arith }
named_ok (LoadWide dst value) h = record { dst = λ e. h.0; src = λ e. omega arith }
named_ok (Load kind dst base offset) h = record { dst = λ e. h.0; src = λ e. h.1 }
named_ok (Store size base offset imm) h = record { dst = λ e. h.0; src = λ e. omega arith }
named_ok (StoreRegister size base offset src) h = record { dst = λ e. h.0; src = λ e. h.2 }
named_ok (Jump offset) h = record { dst = λ e. omega arith; src = λ e. omega arith }
named_ok (Jump32 offset) h = record { dst = λ e. omega arith; src = λ e. omega arith }
named_ok (JumpIf w c dst src offset) h = record { dst = λ e. h.0; src = src_named src h.1 }
named_ok (Call helper) h = record { dst = λ e. omega arith; src = λ e. omega arith }
named_ok Exit h = record { dst = λ e. omega arith; src = λ e. omega arith }

zero_ok : (insn : Insn) → UnusedAreZero (uses_of (row_of insn)) (first_slot insn)
zero_ok (Alu w op dst src) = record { dst = λ e. absurd cc; src = src_zero src; offset = none_zero (selecting_offset op); imm = imm_zero src }
zero_ok (Mov w dst src) = record { dst = λ e. absurd cc; src = src_zero src; offset = λ e. absurd cc; imm = imm_zero src }
zero_ok (Neg w dst) = record { dst = λ e. absurd cc; src = λ e. refl; offset = λ e. refl; imm = λ e. refl }
zero_ok (MovSx x dst src) = record { dst = λ e. absurd cc; src = λ e. absurd cc; offset = λ e. absurd cc; imm = λ e. refl }
zero_ok (End order size dst) = record { dst = λ e. absurd cc; src = λ e. refl; offset = λ e. refl; imm = λ e. absurd cc }
zero_ok (LoadWide dst value) = record { dst = λ e. absurd cc; src = λ e. refl; offset = λ e. refl; imm = λ e. absurd cc }
zero_ok (Load kind dst base offset) = record { dst = λ e. absurd cc; src = λ e. absurd cc; offset = λ e. absurd cc; imm = λ e. refl }
zero_ok (Store size base offset imm) = record { dst = λ e. absurd cc; src = λ e. refl; offset = λ e. absurd cc; imm = λ e. absurd cc }
zero_ok (StoreRegister size base offset src) = record { dst = λ e. absurd cc; src = λ e. absurd cc; offset = λ e. absurd cc; imm = λ e. refl }
zero_ok (Jump offset) = record { dst = λ e. refl; src = λ e. refl; offset = λ e. absurd cc; imm = λ e. refl }
zero_ok (Jump32 offset) = record { dst = λ e. refl; src = λ e. refl; offset = λ e. refl; imm = λ e. absurd cc }
zero_ok (JumpIf w c dst src offset) = record { dst = λ e. absurd cc; src = src_zero src; offset = λ e. absurd cc; imm = imm_zero src }
zero_ok (Call helper) = record { dst = λ e. refl; src = λ e. refl; offset = λ e. refl; imm = λ e. absurd cc }
zero_ok Exit = record { dst = λ e. refl; src = λ e. refl; offset = λ e. refl; imm = λ e. refl }

abbrev after_of : Insn → List ℕ → List ℕ
after_of insn more = flat_map slot_bytes (other_slots insn) ++ more

half_ok : (insn : Insn) (more : List ℕ) → IsInsn insn → row_of insn ≡ row.LoadWide → slot_at (after_of insn more) ≡ half (high_of insn)
half_ok (LoadWide dst value) more h e = fields_again (half (value / 2 ^ 32)) more (high_fits (LoadWide dst value) h)
half_ok insn more h e = absurd cc

half_there : (insn : Insn) (more : List ℕ) → row_of insn ≡ row.LoadWide → after_of insn more ≡ [] → ⊥
half_there (LoadWide dst value) more e n = absurd cc
half_there insn more e n = absurd cc

-- no fault stands where an instruction is spelled
pub no_fault : (f : SlotFault) (insn : Insn) (more : List ℕ) → IsInsn insn → StepFault f (spelling insn ++ more) → ⊥
no_fault f insn more h = go f
  where
    s : slot_at (spelling insn ++ more) ≡ first_slot insn
    s = fields_again (first_slot insn) (after_of insn more) (fits_slot insn h)

    same : (op : Operation) → IsRow op (slot_at (spelling insn ++ more)) → row_of insn ≡ op
    same op r = one_row (first_slot insn) (row_of insn) op (is_row insn) (subst (λ (t : Slot). IsRow op t) s r)

    named : (op : Operation) → row_of insn ≡ op → RegistersAreNamed (uses_of op) (slot_at (spelling insn ++ more))
    named op e = subst (λ (t : Slot). RegistersAreNamed (uses_of op) t) (sym s) (subst (λ (o : Operation). RegistersAreNamed (uses_of o) (first_slot insn)) e (named_ok insn h))

    zeros : (op : Operation) → row_of insn ≡ op → UnusedAreZero (uses_of op) (slot_at (spelling insn ++ more))
    zeros op e = subst (λ (t : Slot). UnusedAreZero (uses_of op) t) (sym s) (subst (λ (o : Operation). UnusedAreZero (uses_of o) (first_slot insn)) e (zero_ok insn))

    go : (f : SlotFault) → StepFault f (spelling insn ++ more) → ⊥
    go step.UnknownOp x = x (row_of insn) (subst (λ (t : Slot). IsRow (row_of insn) t) (sym s) (is_row insn))
    go step.BadRegister x = x.2 (named x.0 (same x.0 x.1))
    go step.UnusedField x = elim x.3 [
      | inl z ↦ z (zeros x.0 (same x.0 x.1))
      | inr w ↦ w.2 (high_of insn) (half_ok insn more h (same x.0 x.1 ∙ w.0))
    ]
    go step.HalfWide x = half_there insn more (same row.LoadWide x.0.is_row) x.1

-- a program, cut behind some of its instructions
begins : (before insns : List Insn) (rest : List ℕ) → AllByRecursion IsInsn before → AllByRecursion IsInsn insns → spellings insns ≡ spellings before ++ rest → 0 < length rest
    → (insn : Insn) × (more : List ℕ) × IsInsn insn × (rest ≡ spelling insn ++ more)
begins [] [] rest fb fi e some = let n : length rest ≡ 0 = ap length (sym e) in absurd (omega arith)
begins [] (i ∷ insns) rest fb fi e some = (i, spellings insns, fi.0, sym e)
begins (b ∷ before) [] rest fb fi e some = absurd cc
begins (b ∷ before) (i ∷ insns) rest fb fi e some =
    let whole : spelling i ++ spellings insns ≡ spelling b ++ (spellings before ++ rest) = e ∙ append_assoc (spelling b) (spellings before) rest in
    begins before insns rest fb.1 fi.1 (one_spelling i b (spellings insns) (spellings before ++ rest) fi.0 fb.0 whole).1 some

none_at : (f : SlotFault) (insns : List Insn) (slot : ℕ) → AllByRecursion IsInsn insns → IsAt slot (spellings insns) (λ rest. StepFault f rest) → ⊥
none_at f insns slot fit x =
    let b = begins x.0 insns x.1 x.2.fit fit x.2.parts x.2.more in
    no_fault f b.0 b.1 b.2 (subst (λ (t : List ℕ). StepFault f t) b.3 x.3)

pub nothing_refused : (insns : List Insn) → AllByRecursion IsInsn insns → IsWhole (spellings insns) → (e : CodecFault) → IsRefusal e (spellings insns) → e ≡ fault.NoMemory
nothing_refused insns fit whole fault.Empty r = let n : length (spellings insns) ≡ 0 = ap length r in let k = whole.some in absurd (omega arith)
nothing_refused insns fit whole fault.Ragged r = absurd (r whole.even)
nothing_refused insns fit whole fault.TooLong r = let k = whole.short in let m = r.1 in absurd (omega arith)
nothing_refused insns fit whole (fault.UnknownOp slot) r = absurd (none_at step.UnknownOp insns slot fit r.1)
nothing_refused insns fit whole (fault.BadRegister slot) r = absurd (none_at step.BadRegister insns slot fit r.1)
nothing_refused insns fit whole (fault.UnusedField slot) r = absurd (none_at step.UnusedField insns slot fit r.1)
nothing_refused insns fit whole (fault.HalfWide slot) r = absurd (none_at step.HalfWide insns slot fit r.1)
nothing_refused insns fit whole fault.NoMemory r = refl
