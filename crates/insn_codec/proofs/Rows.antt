-- The table and its inverse agree.
use Rattle.std.proofs.Common.{◌≡◌, ℕ, ◌+◌, ◌*◌, ◌/◌, ◌%◌, ◌<◌, ◌≤◌, Bool, true, false, cond, eqb, Option, Some, None, refl, ap, ◌∙◌, arith}
use Rattle.std.specs.Prelude.{IfSome, IfNone, option_map, option_and_then, if◌then◌else◌, ◌==◌, ◌&&◌}
use Rattle.std.proofs.lemmas.Bool.{eqb-true}
use Rattle.std.proofs.lemmas.Bool.Decides.{nat_tests}
use Rattle.insn_codec.specs.declared.slot.Slot.{Slot}
use Rattle.insn_codec.specs.declared.insn.Width.{Width}
use Rattle.insn_codec.specs.declared.insn.Width.TheVariants.{W32, W64}
use Rattle.insn_codec.specs.declared.insn.AluOp.{AluOp}
use Rattle.insn_codec.specs.declared.insn.AluOp.TheVariants.{Add, Div, Sdiv, Mod, Smod}
use Rattle.insn_codec.specs.declared.insn.Condition.{Condition}
use Rattle.insn_codec.specs.declared.insn.Condition.TheVariants.{Equal}
use Rattle.insn_codec.specs.declared.insn.SignExtension.{SignExtension}
use Rattle.insn_codec.specs.declared.insn.SignExtension.TheVariants.{From8To32, From16To32, From8To64, From16To64, From32To64}
use Rattle.insn_codec.specs.declared.insn.ByteOrder.{ByteOrder}
use Rattle.insn_codec.specs.declared.insn.ByteOrder.TheVariants.{Little, Big, Swap}
use Rattle.insn_codec.specs.declared.insn.EndSize.{EndSize}
use Rattle.insn_codec.specs.declared.insn.EndSize.TheVariants.{Bits16}
use Rattle.insn_codec.specs.declared.insn.Size.TheVariants as sizes
use Rattle.insn_codec.specs.declared.insn.LoadKind.TheVariants as loads
use Rattle.insn_codec.specs.declared.insn.Size.{Size}
use Rattle.insn_codec.specs.declared.insn.LoadKind.{LoadKind}
use Rattle.insn_codec.specs.declared.operation.Source.{Source}
use Rattle.insn_codec.specs.declared.operation.Source.TheVariants.{Imm, Reg}
use Rattle.insn_codec.specs.declared.operation.Operation.{Operation}
use Rattle.insn_codec.specs.declared.operation.Operation.TheVariants.{Alu, Mov, Neg, MovSx, End, LoadWide, Load, Store, StoreRegister, Jump, Jump32, JumpIf, Call, Exit}
use Rattle.insn_codec.specs.Table.{code_of, selecting_offset, condition_code, source_code, alu_class, jump_class, target_width, extended_bits, end_bits, size_code, load_code, IsRow, IsUnknown}
use Rattle.insn_codec.specs.Inverse.{mov_at, source_at, alu_op_at, condition_at, size_at, load_at, extension_at, end_size_at, end_row, end_at, neg_row, extension_row, alu_op_row, other_jump_at, jump_row, operation_at, alu_at, jump_at}

-- a choice between two answers
pub by_test : {A : Type 0} (P : A → Type 0) (b : Bool) (x y : Option A) → (b ≡ true → IfSome x P) → (b ≡ false → IfSome y P) → IfSome (cond b x y) P
by_test P true x y f g = f refl
by_test P false x y f g = g refl

-- ---- what is found is of that row

condition_found : (code : ℕ) (condition : Condition) → condition_at code ≡ Some condition → condition_code condition ≡ code
condition_found code condition e = grind (arith, nat_tests)

size_found : (code : ℕ) (size : Size) → size_at code ≡ Some size → size_code size + 12 ≡ code
size_found code size e = grind (arith, nat_tests)

load_found : (code : ℕ) (kind : LoadKind) → load_at code ≡ Some kind → load_code kind ≡ 8 * code
load_found code kind e = grind (arith, nat_tests)

alu_op_found : (code offset : ℕ) (op : AluOp) → alu_op_at code offset ≡ Some op → (code_of op ≡ code) × IfSome (selecting_offset op) (λ n. offset ≡ n)
alu_op_found code offset op e = grind (arith, nat_tests)

source_found : (opcode : ℕ) → source_code (source_at opcode) ≡ opcode / 8 % 2
source_found opcode = grind (arith, nat_tests)

extension_found : (width : Width) (offset : ℕ) (extension : SignExtension) → extension_at width offset ≡ Some extension → (target_width extension ≡ width) × (offset ≡ extended_bits extension)
extension_found W32 offset extension e = grind (arith, nat_tests)
extension_found W64 offset extension e = grind (arith, nat_tests)

end_size_found : (imm : ℕ) (size : EndSize) → end_size_at imm ≡ Some size → imm ≡ end_bits size
end_size_found imm size e = grind (arith, nat_tests)

abbrev IsRowOf : Slot → Operation → Type 0
IsRowOf s op = IsRow op s

by_option : {A B : Type 0} (P : B → Type 0) (f : A → B) (o : Option A) → ((x : A) → o ≡ Some x → P (f x)) → IfSome (option_map f o) P
by_option P f None h = tt
by_option P f (Some x) h = h x refl

neg_found : (w : Width) (s : Slot) (source : Source) → s.opcode % 8 ≡ alu_class w → s.opcode / 16 ≡ 8 → source_code source ≡ s.opcode / 8 % 2 → IfSome (neg_row w source) (IsRowOf s)
neg_found w s Imm class code src = record { opcode = omega arith; chosen = tt }
neg_found w s Reg class code src = tt

end_found : (w : Width) (s : Slot) (source : Source) (size : Option EndSize) → end_size_at s.imm ≡ size → s.opcode % 8 ≡ alu_class w → s.opcode / 16 ≡ 13 → source_code source ≡ s.opcode / 8 % 2 → IfSome (option_and_then (end_row w source) size) (IsRowOf s)
end_found w s source None found class code src = tt
end_found W32 s Imm (Some size) found class code src = record { opcode = omega arith; chosen = end_size_found s.imm size found }
end_found W32 s Reg (Some size) found class code src = record { opcode = omega arith; chosen = end_size_found s.imm size found }
end_found W64 s Imm (Some size) found class code src = record { opcode = omega arith; chosen = end_size_found s.imm size found }
end_found W64 s Reg (Some size) found class code src = tt

extension_row_found : (w : Width) (s : Slot) (source : Source) → s.opcode % 8 ≡ alu_class w → s.opcode / 16 ≡ 11 → source_code source ≡ s.opcode / 8 % 2 → IfSome (extension_row w source s.offset) (IsRowOf s)
extension_row_found w s Imm class code src = tt
extension_row_found w s Reg class code src =
    by_option (IsRowOf s) MovSx (extension_at w s.offset) (λ x found.
    let f = extension_found w s.offset x found in
    let width : alu_class (target_width x) ≡ alu_class w = ap alu_class f.0 in
    record { opcode = omega arith; chosen = f.1 })

mov_found : (w : Width) (s : Slot) (source : Source) → s.opcode % 8 ≡ alu_class w → s.opcode / 16 ≡ 11 → source_code source ≡ s.opcode / 8 % 2 → IfSome (mov_at w source s.offset) (IsRowOf s)
mov_found w s source class code src =
    by_test (IsRowOf s) (eqb s.offset 0) _ _
    (λ e. record { opcode = omega arith; chosen = eqb-true s.offset 0 e })
    (λ _. extension_row_found w s source class code src)

alu_op_row_found : (w : Width) (s : Slot) (source : Source) → s.opcode % 8 ≡ alu_class w → source_code source ≡ s.opcode / 8 % 2 → IfSome (alu_op_row w source (alu_op_at (s.opcode / 16) s.offset)) (IsRowOf s)
alu_op_row_found w s source class src =
    by_option (IsRowOf s) (λ op. Alu w op source) (alu_op_at (s.opcode / 16) s.offset) (λ op found.
    let f = alu_op_found (s.opcode / 16) s.offset op found in
    record { opcode = omega (arith, f.0); chosen = f.1 })

alu_found : (w : Width) (s : Slot) → s.opcode % 8 ≡ alu_class w → IfSome (alu_at w s) (IsRowOf s)
unfolding alu_at end_at
alu_found w s class =
    by_test (IsRowOf s) (eqb (s.opcode / 16) 8) _ _
    (λ e. neg_found w s (source_at s.opcode) class (eqb-true (s.opcode / 16) 8 e) (source_found s.opcode))
    (λ _. by_test (IsRowOf s) (eqb (s.opcode / 16) 13) _ _
    (λ e. end_found w s (source_at s.opcode) (end_size_at s.imm) refl class (eqb-true (s.opcode / 16) 13 e) (source_found s.opcode))
    (λ _. by_test (IsRowOf s) (eqb (s.opcode / 16) 11) _ _
    (λ e. mov_found w s (source_at s.opcode) class (eqb-true (s.opcode / 16) 11 e) (source_found s.opcode))
    (λ _. alu_op_row_found w s (source_at s.opcode) class (source_found s.opcode))))

other_jump_found : (w : Width) (s : Slot) → IfSome (other_jump_at w s) (IsRowOf s)
other_jump_found W64 s =
    by_test (IsRowOf s) (eqb s.opcode 0x05) _ _ (λ e. record { opcode = eqb-true s.opcode 0x05 e; chosen = tt })
    (λ _. by_test (IsRowOf s) (eqb s.opcode 0x85) _ _
    (λ e. by_test (IsRowOf s) (eqb s.src 0) _ _ (λ z. record { opcode = eqb-true s.opcode 0x85 e; chosen = eqb-true s.src 0 z }) (λ _. tt))
    (λ _. by_test (IsRowOf s) (eqb s.opcode 0x95) _ _ (λ e. record { opcode = eqb-true s.opcode 0x95 e; chosen = tt }) (λ _. tt)))
other_jump_found W32 s = by_test (IsRowOf s) (eqb s.opcode 0x06) _ _ (λ e. record { opcode = eqb-true s.opcode 0x06 e; chosen = tt }) (λ _. tt)

jump_row_found : (w : Width) (s : Slot) (o : Option Condition) → condition_at (s.opcode / 16) ≡ o → s.opcode % 8 ≡ jump_class w → IfSome (jump_row w s o) (IsRowOf s)
jump_row_found w s None found class = other_jump_found w s
jump_row_found w s (Some condition) found class =
    let f = condition_found (s.opcode / 16) condition found in
    let src = source_found s.opcode in
    record { opcode = omega arith; chosen = tt }

jump_found : (w : Width) (s : Slot) → s.opcode % 8 ≡ jump_class w → IfSome (jump_at w s) (IsRowOf s)
unfolding jump_at
jump_found w s class = jump_row_found w s (condition_at (s.opcode / 16)) refl class

wide_found : (s : Slot) → IfSome (if (s.opcode == 0x18) && (s.src == 0) then Some LoadWide else None) (IsRowOf s)
wide_found s =
    by_test (IsRowOf s) ((s.opcode == 0x18) && (s.src == 0)) _ _
    (λ e. record { opcode = grind (arith, nat_tests); chosen = grind (arith, nat_tests) }) (λ _. tt)

pub row_found : (s : Slot) → IfSome (operation_at s) (λ op. IsRow op s)
unfolding operation_at
row_found s =
    let P = IsRowOf s in
    by_test P (eqb (s.opcode % 8) 0) _ _ (λ e. wide_found s)
    (λ n0. by_test P (eqb (s.opcode % 8) 1) _ _
    (λ e. by_option P Load (load_at (s.opcode / 8)) (λ x found.
    let f = load_found (s.opcode / 8) x found in
    let class : s.opcode % 8 ≡ 1 = eqb-true (s.opcode % 8) 1 e in
    record { opcode = omega arith; chosen = tt }))
    (λ n1. by_test P (eqb (s.opcode % 8) 2) _ _
    (λ e. by_option P Store (size_at (s.opcode / 8)) (λ x found.
    let f = size_found (s.opcode / 8) x found in
    let class : s.opcode % 8 ≡ 2 = eqb-true (s.opcode % 8) 2 e in
    record { opcode = omega arith; chosen = tt }))
    (λ n2. by_test P (eqb (s.opcode % 8) 3) _ _
    (λ e. by_option P StoreRegister (size_at (s.opcode / 8)) (λ x found.
    let f = size_found (s.opcode / 8) x found in
    let class : s.opcode % 8 ≡ 3 = eqb-true (s.opcode % 8) 3 e in
    record { opcode = omega arith; chosen = tt }))
    (λ n3. by_test P (eqb (s.opcode % 8) 4) _ _ (λ e. alu_found W32 s (eqb-true (s.opcode % 8) 4 e))
    (λ n4. by_test P (eqb (s.opcode % 8) 5) _ _ (λ e. jump_found W64 s (eqb-true (s.opcode % 8) 5 e))
    (λ n5. by_test P (eqb (s.opcode % 8) 6) _ _ (λ e. jump_found W32 s (eqb-true (s.opcode % 8) 6 e))
    (λ n6. alu_found W64 s (grind (arith, nat_tests)))))))))

-- ---- each row is found

alu_op_again : (op : AluOp) (offset : ℕ) → IfSome (selecting_offset op) (λ n. offset ≡ n) → alu_op_at (code_of op) offset ≡ Some op
alu_op_again Div offset h = rw h refl
alu_op_again Sdiv offset h = rw h refl
alu_op_again Mod offset h = rw h refl
alu_op_again Smod offset h = rw h refl
alu_op_again op offset h = refl

-- 8, 11 and 13 are codes of other rows
alu_op_apart : (op : AluOp) → (eqb (code_of op) 8 ≡ false) × (eqb (code_of op) 11 ≡ false) × (eqb (code_of op) 13 ≡ false)
alu_op_apart Add = (refl, refl, refl)
alu_op_apart op = (refl, refl, refl)

condition_again : (condition : Condition) → condition_at (condition_code condition) ≡ Some condition
condition_again Equal = refl
condition_again condition = refl

end_size_again : (size : EndSize) → end_size_at (end_bits size) ≡ Some size
end_size_again Bits16 = refl
end_size_again size = refl

source_again : (opcode : ℕ) (source : Source) → opcode / 8 % 2 ≡ source_code source → source_at opcode ≡ source
source_again opcode Imm h = rw h refl
source_again opcode Reg h = rw h refl

pub source_small : (source : Source) → source_code source ≤ 1
source_small Imm = omega arith
source_small Reg = omega arith

pub alu_small : (w : Width) → alu_class w < 8
alu_small W32 = omega arith
alu_small W64 = omega arith

pub jump_small : (w : Width) → jump_class w < 8
jump_small W32 = omega arith
jump_small W64 = omega arith

to_alu : (w : Width) (s : Slot) → s.opcode % 8 ≡ alu_class w → operation_at s ≡ alu_at w s
unfolding operation_at
to_alu W32 s h = rw h refl
to_alu W64 s h = rw h refl

to_jump : (w : Width) (s : Slot) → s.opcode % 8 ≡ jump_class w → operation_at s ≡ jump_at w s
unfolding operation_at
to_jump W32 s h = rw h refl
to_jump W64 s h = rw h refl

alu_op_row_again : (w : Width) (op : AluOp) (source : Source) (s : Slot) → IsRow (Alu w op source) s → alu_at w s ≡ Some (Alu w op source)
unfolding alu_at
alu_op_row_again w op source s r =
    let a = alu_small w in
    let b = source_small source in
    let opcode = r.opcode in
    let code : s.opcode / 16 ≡ code_of op = omega arith in
    let src : source_at s.opcode ≡ source = source_again s.opcode source (omega arith) in
    let apart = alu_op_apart op in
    rw (code, src, apart.0, apart.1, apart.2, alu_op_again op s.offset r.chosen) refl

mov_row_again : (w : Width) (source : Source) (s : Slot) → IsRow (Mov w source) s → alu_at w s ≡ Some (Mov w source)
unfolding alu_at
mov_row_again w source s r =
    let a = alu_small w in
    let b = source_small source in
    let opcode = r.opcode in
    let code : s.opcode / 16 ≡ 11 = omega arith in
    let src : source_at s.opcode ≡ source = source_again s.opcode source (omega arith) in
    rw (code, src, r.chosen) refl

neg_row_again : (w : Width) (s : Slot) → IsRow (Neg w) s → alu_at w s ≡ Some (Neg w)
unfolding alu_at
neg_row_again w s r =
    let a = alu_small w in
    let opcode = r.opcode in
    let code : s.opcode / 16 ≡ 8 = omega arith in
    let src : source_at s.opcode ≡ Imm = source_again s.opcode Imm (omega arith) in
    rw (code, src) refl

extension_row_again : (extension : SignExtension) (s : Slot) → IsRow (MovSx extension) s → alu_at (target_width extension) s ≡ Some (MovSx extension)
unfolding alu_at
extension_row_again From8To32 s r = rw (r.opcode, r.chosen) refl
extension_row_again From16To32 s r = rw (r.opcode, r.chosen) refl
extension_row_again From8To64 s r = rw (r.opcode, r.chosen) refl
extension_row_again From16To64 s r = rw (r.opcode, r.chosen) refl
extension_row_again From32To64 s r = rw (r.opcode, r.chosen) refl

abbrev end_width : ByteOrder → Width
end_width Little = W32
end_width Big = W32
end_width Swap = W64

end_row_again : (order : ByteOrder) (size : EndSize) (s : Slot) → IsRow (End order size) s → alu_at (end_width order) s ≡ Some (End order size)
unfolding alu_at end_at
end_row_again Little size s r = rw (r.opcode, r.chosen, end_size_again size) refl
end_row_again Big size s r = rw (r.opcode, r.chosen, end_size_again size) refl
end_row_again Swap size s r = rw (r.opcode, r.chosen, end_size_again size) refl

jump_row_again : (w : Width) (condition : Condition) (source : Source) (s : Slot) → IsRow (JumpIf w condition source) s → jump_at w s ≡ Some (JumpIf w condition source)
unfolding jump_at
jump_row_again w condition source s r =
    let a = jump_small w in
    let b = source_small source in
    let opcode = r.opcode in
    let code : s.opcode / 16 ≡ condition_code condition = omega arith in
    let src : source_at s.opcode ≡ source = source_again s.opcode source (omega arith) in
    rw (code, condition_again condition, src) refl

class_of_alu : (w : Width) (s : Slot) (k : ℕ) → s.opcode ≡ 8 * k + alu_class w → s.opcode % 8 ≡ alu_class w
class_of_alu w s k e = let a = alu_small w in omega arith

pub row_again : (s : Slot) (op : Operation) → IsRow op s → operation_at s ≡ Some op
unfolding operation_at jump_at
row_again s (Alu w op source) r = to_alu w s (let a = alu_small w in let e = r.opcode in omega arith) ∙ alu_op_row_again w op source s r
row_again s (Mov w source) r = to_alu w s (let a = alu_small w in let e = r.opcode in omega arith) ∙ mov_row_again w source s r
row_again s (Neg w) r = to_alu w s (let a = alu_small w in let e = r.opcode in omega arith) ∙ neg_row_again w s r
row_again s (MovSx extension) r = to_alu (target_width extension) s (let a = alu_small (target_width extension) in let e = r.opcode in omega arith) ∙ extension_row_again extension s r
row_again s (End Little size) r = to_alu W32 s (rw r.opcode refl) ∙ end_row_again Little size s r
row_again s (End Big size) r = to_alu W32 s (rw r.opcode refl) ∙ end_row_again Big size s r
row_again s (End Swap size) r = to_alu W64 s (rw r.opcode refl) ∙ end_row_again Swap size s r
row_again s LoadWide r = rw (r.opcode, r.chosen) refl
row_again s (Load loads.Word) r = rw r.opcode refl
row_again s (Load kind) r = rw r.opcode refl
row_again s (Store sizes.Word) r = rw r.opcode refl
row_again s (Store size) r = rw r.opcode refl
row_again s (StoreRegister sizes.Word) r = rw r.opcode refl
row_again s (StoreRegister size) r = rw r.opcode refl
row_again s Jump r = rw r.opcode refl
row_again s Jump32 r = rw r.opcode refl
row_again s (JumpIf w condition source) r = to_jump w s (let a = jump_small w in let e = r.opcode in omega arith) ∙ jump_row_again w condition source s r
row_again s Call r = rw (r.opcode, r.chosen) refl
row_again s Exit r = rw r.opcode refl

pub none_from : (s : Slot) (o : Option Operation) → ((op : Operation) → IsRow op s → o ≡ Some op) → IfNone o (IsUnknown s)
none_from s None h = λ op r. let e : None ≡ Some op = h op r in absurd cc
none_from s (Some x) h = tt

pub row_only : (s : Slot) → IfNone (operation_at s) (IsUnknown s)
row_only s = none_from s (operation_at s) (row_again s)
