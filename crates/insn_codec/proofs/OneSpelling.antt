-- No spelling of an instruction begins another's.
use Rattle.std.proofs.Common.{◌≡◌, ℤ, ℕ, ◌+◌, ◌*◌, ◌/◌, ◌%◌, ◌^◌, ◌<◌, ◌≤◌, List, [], ◌∷◌, ◌++◌, drop, Option, Some, None, refl, sym, ap, subst, ◌∙◌, arith}
use Rattle.std.specs.Prelude.{IfSome, unwrap_or, FitsSigned}
use Rattle.std.specs.Int.{w16, w32, cast_unsigned, cast_signed}
use Rattle.std.specs.List.{flat_map}
use Rattle.std.proofs.lemmas.Int.{ints, to_z-of_z}
use Rattle.insn_codec.specs.declared.slot.Slot.{Slot}
use Rattle.insn_codec.specs.declared.insn.AluOp.{AluOp}
use Rattle.insn_codec.specs.declared.insn.AluOp.TheVariants.{Add}
use Rattle.insn_codec.specs.declared.insn.Condition.{Condition}
use Rattle.insn_codec.specs.declared.insn.Condition.TheVariants.{Equal}
use Rattle.insn_codec.specs.declared.insn.ByteOrder.TheVariants.{Little, Big, Swap}
use Rattle.insn_codec.specs.declared.insn.Size.{Size}
use Rattle.insn_codec.specs.declared.insn.Size.TheVariants as sizes
use Rattle.insn_codec.specs.declared.insn.LoadKind.{LoadKind}
use Rattle.insn_codec.specs.declared.insn.LoadKind.TheVariants as loads
use Rattle.insn_codec.specs.declared.insn.SignExtension.{SignExtension}
use Rattle.insn_codec.specs.declared.insn.SignExtension.TheVariants.{From8To32}
use Rattle.insn_codec.specs.declared.insn.EndSize.{EndSize}
use Rattle.insn_codec.specs.declared.insn.EndSize.TheVariants.{Bits16}
use Rattle.insn_codec.specs.declared.insn.Operand.{Operand}
use Rattle.insn_codec.specs.declared.insn.Operand.TheVariants as operand
use Rattle.insn_codec.specs.declared.insn.Insn.{Insn}
use Rattle.insn_codec.specs.declared.insn.Insn.TheVariants.{Alu, Mov, Neg, MovSx, End, LoadWide, Load, Store, StoreRegister, Jump, Jump32, JumpIf, Call, Exit}
use Rattle.insn_codec.specs.declared.operation.Source.{Source}
use Rattle.insn_codec.specs.declared.operation.Source.TheVariants as source
use Rattle.insn_codec.specs.declared.operation.Operation.{Operation}
use Rattle.insn_codec.specs.declared.operation.Operation.TheVariants as row
use Rattle.insn_codec.specs.Layout.{slot_bytes, slot_at, FitsSlot}
use Rattle.insn_codec.specs.Table.{code_of, condition_code, size_code, load_code, target_width, end_bits, extended_bits, selecting_offset, opcode_of, IsRow}
use Rattle.insn_codec.specs.Spelling.{first_slot, row_of, operand_source, operand_src, operand_imm, IsOperand, other_slots, half, spelling, IsInsn}
use Rattle.insn_codec.specs.Steps.{high_slots}
use Rattle.insn_codec.proofs.Rows.{row_again, source_small, alu_small, jump_small}

-- eight bytes of fields that fit have these fields
pub fields_again : (s : Slot) (rest : List ℕ) → FitsSlot s → slot_at (slot_bytes s ++ rest) ≡ s
fields_again s rest fits =
    let dst : (16 * s.src + s.dst) % 16 ≡ s.dst = omega arith in
    let src : (16 * s.src + s.dst) / 16 ≡ s.src = omega arith in
    let offset : s.offset % 256 + 256 * (s.offset / 256 % 256 + 256 * 0) ≡ s.offset = omega arith in
    let imm : s.imm % 256 + 256 * (s.imm / 256 % 256 + 256 * (s.imm / 65536 % 256 + 256 * (s.imm / 16777216 % 256 + 256 * 0))) ≡ s.imm = omega arith in
    let same : (d r o i : ℕ) → d ≡ s.dst → r ≡ s.src → o ≡ s.offset → i ≡ s.imm → (let t : Slot = record { opcode = s.opcode; dst = d; src = r; offset = o; imm = i } in t) ≡ s = λ d r o i p q u v. rw (p, q, u, v) refl in
    same _ _ _ _ dst src offset imm

abbrev pub high_of : Insn → ℕ
high_of (LoadWide dst value) = value / 2 ^ 32
high_of insn = 0

abbrev operand_at : Source → Slot → Operand
operand_at source.Imm s = operand.Imm (cast_signed w32 s.imm)
operand_at source.Reg s = operand.Reg s.src

-- the instruction of a row with these fields
abbrev pub insn_at : Operation → Slot → ℕ → Insn
insn_at (row.Alu w op from) s high = Alu w op s.dst (operand_at from s)
insn_at (row.Mov w from) s high = Mov w s.dst (operand_at from s)
insn_at (row.MovSx e) s high = MovSx e s.dst s.src
insn_at (row.Neg w) s high = Neg w s.dst
insn_at (row.End order size) s high = End order size s.dst
insn_at row.LoadWide s high = LoadWide s.dst (high * 2 ^ 32 + s.imm)
insn_at (row.Load kind) s high = Load kind s.dst s.src (cast_signed w16 s.offset)
insn_at (row.Store size) s high = Store size s.dst (cast_signed w16 s.offset) (cast_signed w32 s.imm)
insn_at (row.StoreRegister size) s high = StoreRegister size s.dst (cast_signed w16 s.offset) s.src
insn_at row.Jump s high = Jump (cast_signed w16 s.offset)
insn_at row.Jump32 s high = Jump32 (cast_signed w32 s.imm)
insn_at (row.JumpIf w c from) s high = JumpIf w c s.dst (operand_at from s) (cast_signed w16 s.offset)
insn_at row.Call s high = Call s.imm
insn_at row.Exit s high = Exit

operand_again : (src : Operand) (s : Slot) → IsOperand src → s.src ≡ operand_src src → s.imm ≡ operand_imm src → operand_at (operand_source src) s ≡ src
operand_again (operand.Imm imm) s h p q = ap operand.Imm (ap (cast_signed w32) q ∙ to_z-of_z w32 imm h)
operand_again (operand.Reg src) s h p q = ap operand.Reg p

pub insn_again : (insn : Insn) → IsInsn insn → insn_at (row_of insn) (first_slot insn) (high_of insn) ≡ insn
insn_again (Alu w op dst src) h = ap (Alu w op dst) (operand_again src (first_slot (Alu w op dst src)) h.1 refl refl)
insn_again (Mov w dst src) h = ap (Mov w dst) (operand_again src (first_slot (Mov w dst src)) h.1 refl refl)
insn_again (MovSx e dst src) h = refl
insn_again (Neg w dst) h = refl
insn_again (End order size dst) h = refl
insn_again (LoadWide dst value) h = ap (LoadWide dst) (omega arith)
insn_again (Load kind dst base offset) h = ap (Load kind dst base) (to_z-of_z w16 offset h.2)
insn_again (Store size base offset imm) h = ap (λ x. Store size base x (cast_signed w32 (cast_unsigned w32 imm))) (to_z-of_z w16 offset h.1) ∙ ap (Store size base offset) (to_z-of_z w32 imm h.2)
insn_again (StoreRegister size base offset src) h = ap (λ x. StoreRegister size base x src) (to_z-of_z w16 offset h.1)
insn_again (Jump offset) h = ap Jump (to_z-of_z w16 offset h)
insn_again (Jump32 offset) h = ap Jump32 (to_z-of_z w32 offset h)
insn_again (JumpIf w c dst src offset) h = ap (λ x. JumpIf w c dst x (cast_signed w16 (cast_unsigned w16 offset))) (operand_again src (first_slot (JumpIf w c dst src offset)) h.1 refl refl) ∙ ap (JumpIf w c dst src) (to_z-of_z w16 offset h.2)
insn_again (Call helper) h = refl
insn_again Exit h = refl

chosen_by : (o : Option ℕ) → IfSome o (λ n. unwrap_or o 0 ≡ n)
chosen_by None = tt
chosen_by (Some n) = refl

pub is_row : (insn : Insn) → IsRow (row_of insn) (first_slot insn)
is_row (Alu w op dst src) = record { opcode = refl; chosen = chosen_by (selecting_offset op) }
is_row (Mov w dst src) = record { opcode = refl; chosen = refl }
is_row (Neg w dst) = record { opcode = refl; chosen = tt }
is_row (MovSx e dst src) = record { opcode = refl; chosen = refl }
is_row (End order size dst) = record { opcode = refl; chosen = refl }
is_row (LoadWide dst value) = record { opcode = refl; chosen = refl }
is_row (Load kind dst base offset) = record { opcode = refl; chosen = tt }
is_row (Store size base offset imm) = record { opcode = refl; chosen = tt }
is_row (StoreRegister size base offset src) = record { opcode = refl; chosen = tt }
is_row (Jump offset) = record { opcode = refl; chosen = tt }
is_row (Jump32 offset) = record { opcode = refl; chosen = tt }
is_row (JumpIf w c dst src offset) = record { opcode = refl; chosen = tt }
is_row (Call helper) = record { opcode = refl; chosen = refl }
is_row Exit = record { opcode = refl; chosen = tt }

pub one_row : (s : Slot) (a b : Operation) → IsRow a s → IsRow b s → a ≡ b
one_row s a b p q = let x = row_again s a p in let y = row_again s b q in cc

code_small : (op : AluOp) → code_of op ≤ 12
code_small Add = omega arith
code_small op = omega arith

condition_small : (c : Condition) → condition_code c ≤ 13
condition_small Equal = omega arith
condition_small c = omega arith

size_small : (size : Size) → size_code size ≤ 3
size_small sizes.Word = omega arith
size_small size = omega arith

load_small : (kind : LoadKind) → load_code kind ≤ 144
load_small loads.Word = omega arith
load_small kind = omega arith

bits_small : (e : SignExtension) → extended_bits e ≤ 32
bits_small From8To32 = omega arith
bits_small e = omega arith

end_small : (size : EndSize) → end_bits size ≤ 64
end_small Bits16 = omega arith
end_small size = omega arith

opcode_small : (op : Operation) → opcode_of op < 256
opcode_small (row.Alu w op src) = omega (arith, code_small op, source_small src, alu_small w)
opcode_small (row.Mov w src) = omega (arith, source_small src, alu_small w)
opcode_small (row.Neg w) = omega (arith, alu_small w)
opcode_small (row.MovSx e) = omega (arith, alu_small (target_width e))
opcode_small (row.End Little size) = omega arith
opcode_small (row.End Big size) = omega arith
opcode_small (row.End Swap size) = omega arith
opcode_small row.LoadWide = omega arith
opcode_small (row.Load kind) = omega (arith, load_small kind)
opcode_small (row.Store size) = omega (arith, size_small size)
opcode_small (row.StoreRegister size) = omega (arith, size_small size)
opcode_small row.Jump = omega arith
opcode_small row.Jump32 = omega arith
opcode_small (row.JumpIf w c src) = omega (arith, condition_small c, source_small src, jump_small w)
opcode_small row.Call = omega arith
opcode_small row.Exit = omega arith

offset_small : (op : AluOp) → unwrap_or (selecting_offset op) 0 < 2 ^ 16
offset_small Add = omega arith
offset_small op = omega arith

bits16 : (z : ℤ) → FitsSigned w16 z → cast_unsigned w16 z < 2 ^ 16
bits16 z h = omega (arith, ints)

bits32 : (z : ℤ) → FitsSigned w32 z → cast_unsigned w32 z < 2 ^ 32
bits32 z h = omega (arith, ints)

src_small : (src : Operand) → IsOperand src → operand_src src < 2 ^ 4
src_small (operand.Imm imm) h = omega arith
src_small (operand.Reg src) h = omega arith

imm_small : (src : Operand) → IsOperand src → operand_imm src < 2 ^ 32
imm_small (operand.Imm imm) h = bits32 imm h
imm_small (operand.Reg src) h = omega arith

pub fits_slot : (insn : Insn) → IsInsn insn → FitsSlot (first_slot insn)
fits_slot (Alu w op dst src) h = record { opcode = opcode_small (row.Alu w op (operand_source src)); dst = omega arith; src = src_small src h.1; offset = offset_small op; imm = imm_small src h.1 }
fits_slot (Mov w dst src) h = record { opcode = opcode_small (row.Mov w (operand_source src)); dst = omega arith; src = src_small src h.1; offset = omega arith; imm = imm_small src h.1 }
fits_slot (Neg w dst) h = record { opcode = opcode_small (row.Neg w); dst = omega arith; src = omega arith; offset = omega arith; imm = omega arith }
fits_slot (MovSx e dst src) h = record { opcode = opcode_small (row.MovSx e); dst = omega arith; src = omega arith; offset = omega (arith, bits_small e); imm = omega arith }
fits_slot (End order size dst) h = record { opcode = opcode_small (row.End order size); dst = omega arith; src = omega arith; offset = omega arith; imm = omega (arith, end_small size) }
fits_slot (LoadWide dst value) h = record { opcode = opcode_small row.LoadWide; dst = omega arith; src = omega arith; offset = omega arith; imm = omega arith }
fits_slot (Load kind dst base offset) h = record { opcode = opcode_small (row.Load kind); dst = omega arith; src = omega arith; offset = bits16 offset h.2; imm = omega arith }
fits_slot (Store size base offset imm) h = record { opcode = opcode_small (row.Store size); dst = omega arith; src = omega arith; offset = bits16 offset h.1; imm = bits32 imm h.2 }
fits_slot (StoreRegister size base offset src) h = record { opcode = opcode_small (row.StoreRegister size); dst = omega arith; src = omega arith; offset = bits16 offset h.1; imm = omega arith }
fits_slot (Jump offset) h = record { opcode = opcode_small row.Jump; dst = omega arith; src = omega arith; offset = bits16 offset h; imm = omega arith }
fits_slot (Jump32 offset) h = record { opcode = opcode_small row.Jump32; dst = omega arith; src = omega arith; offset = omega arith; imm = bits32 offset h }
fits_slot (JumpIf w c dst src offset) h = record { opcode = opcode_small (row.JumpIf w c (operand_source src)); dst = omega arith; src = src_small src h.1; offset = bits16 offset h.2; imm = imm_small src h.1 }
fits_slot (Call helper) h = record { opcode = opcode_small row.Call; dst = omega arith; src = omega arith; offset = omega arith; imm = h }
fits_slot Exit h = record { opcode = opcode_small row.Exit; dst = omega arith; src = omega arith; offset = omega arith; imm = omega arith }

others_are : (insn : Insn) → other_slots insn ≡ high_slots (row_of insn) (high_of insn)
others_are (LoadWide dst value) = refl
others_are insn = refl

pub high_fits : (insn : Insn) → IsInsn insn → FitsSlot (half (high_of insn))
high_fits (LoadWide dst value) h = let v = h.1 in record { opcode = omega arith; dst = omega arith; src = omega arith; offset = omega arith; imm = omega arith }
high_fits insn h = record { opcode = omega arith; dst = omega arith; src = omega arith; offset = omega arith; imm = omega arith }

-- behind the first slots, of one row
same_others : (op : Operation) (m n : ℕ) (x y : List ℕ) → FitsSlot (half m) → FitsSlot (half n) → flat_map slot_bytes (high_slots op m) ++ x ≡ flat_map slot_bytes (high_slots op n) ++ y → (high_slots op m ≡ high_slots op n) × (x ≡ y)
same_others row.LoadWide m n x y fm fn e =
    let s : half m ≡ half n = sym (fields_again (half m) x fm) ∙ ap slot_at e ∙ fields_again (half n) y fn in
    (ap (λ (h : Slot). h ∷ []) s, ap (drop 8) e)
same_others op m n x y fm fn e = (refl, e)

abbrev imm_of : List Slot → ℕ
imm_of [] = 0
imm_of (s ∷ slots) = s.imm

high_is : (insn : Insn) (m : ℕ) → high_slots (row_of insn) (high_of insn) ≡ high_slots (row_of insn) m → insn_at (row_of insn) (first_slot insn) (high_of insn) ≡ insn_at (row_of insn) (first_slot insn) m
high_is (LoadWide dst value) m e = let h : value / 2 ^ 32 ≡ m = ap imm_of e in ap (λ x. insn_at row.LoadWide (first_slot (LoadWide dst value)) x) h
high_is insn m e = refl

pub one_spelling : (a b : Insn) (x y : List ℕ) → IsInsn a → IsInsn b → spelling a ++ x ≡ spelling b ++ y → (a ≡ b) × (x ≡ y)
one_spelling a b x y fa fb e =
    let s : first_slot a ≡ first_slot b = sym (fields_again (first_slot a) (flat_map slot_bytes (other_slots a) ++ x) (fits_slot a fa)) ∙ ap slot_at e ∙ fields_again (first_slot b) (flat_map slot_bytes (other_slots b) ++ y) (fits_slot b fb) in
    let r : row_of a ≡ row_of b = one_row (first_slot b) (row_of a) (row_of b) (subst (λ (t : Slot). IsRow (row_of a) t) s (is_row a)) (is_row b) in
    let rest : flat_map slot_bytes (other_slots a) ++ x ≡ flat_map slot_bytes (other_slots b) ++ y = ap (drop 8) e in
    let tails : flat_map slot_bytes (high_slots (row_of a) (high_of a)) ++ x ≡ flat_map slot_bytes (high_slots (row_of a) (high_of b)) ++ y =
    ap (λ (t : List Slot). flat_map slot_bytes t ++ x) (sym (others_are a)) ∙ rest ∙ ap (λ (t : List Slot). flat_map slot_bytes t ++ y) (others_are b) ∙ ap (λ (t : Operation). flat_map slot_bytes (high_slots t (high_of b)) ++ y) (sym r) in
    let o = same_others (row_of a) (high_of a) (high_of b) x y (high_fits a fa) (high_fits b fb) tails in
    (sym (insn_again a fa) ∙ high_is a (high_of b) o.0 ∙ ap (λ (t : Operation). insn_at t (first_slot a) (high_of b)) r ∙ ap (λ (t : Slot). insn_at (row_of b) t (high_of b)) s ∙ insn_again b fb, o.1)
