-- The opcode table (RFC 9669, sections 3 to 5), row by row: the opcode, the fields that choose the
-- operation, and those it uses.
use Rattle.std.specs.Prelude.{◌≡◌, ℕ, ◌+◌, ◌*◌, ◌≤◌, Bool, true, false, Option, Some, None, IfSome, is_some}
use Rattle.insn_codec.specs.declared.slot.Slot.{Slot}
use Rattle.insn_codec.specs.declared.insn.Width.{Width}
use Rattle.insn_codec.specs.declared.insn.Width.TheVariants.{W32, W64}
use Rattle.insn_codec.specs.declared.insn.AluOp.{AluOp}
use Rattle.insn_codec.specs.declared.insn.AluOp.TheVariants.{Add, Sub, Mul, Div, Sdiv, Or, And, Lsh, Rsh, Mod, Smod, Xor, Arsh}
use Rattle.insn_codec.specs.declared.insn.Condition.{Condition}
use Rattle.insn_codec.specs.declared.insn.Condition.TheVariants.{Equal, Greater, GreaterEqual, Set, NotEqual, SignedGreater, SignedGreaterEqual, Less, LessEqual, SignedLess, SignedLessEqual}
use Rattle.insn_codec.specs.declared.insn.SignExtension.{SignExtension}
use Rattle.insn_codec.specs.declared.insn.SignExtension.TheVariants.{From8To32, From16To32, From8To64, From16To64, From32To64}
use Rattle.insn_codec.specs.declared.insn.ByteOrder.{ByteOrder}
use Rattle.insn_codec.specs.declared.insn.ByteOrder.TheVariants.{Little, Big, Swap}
use Rattle.insn_codec.specs.declared.insn.EndSize.{EndSize}
use Rattle.insn_codec.specs.declared.insn.EndSize.TheVariants.{Bits16, Bits32, Bits64}
use Rattle.insn_codec.specs.declared.insn.Size.{Size}
use Rattle.insn_codec.specs.declared.insn.Size.TheVariants as sizes
use Rattle.insn_codec.specs.declared.insn.LoadKind.{LoadKind}
use Rattle.insn_codec.specs.declared.insn.LoadKind.TheVariants as loads
use Rattle.insn_codec.specs.declared.operation.Source.{Source}
use Rattle.insn_codec.specs.declared.operation.Source.TheVariants.{Imm, Reg}
use Rattle.insn_codec.specs.declared.operation.Uses.{Uses}
use Rattle.insn_codec.specs.declared.operation.Operation.{Operation}
use Rattle.insn_codec.specs.declared.operation.Operation.TheVariants.{Alu, Mov, Neg, MovSx, End, LoadWide, Load, Store, StoreRegister, Jump, Jump32, JumpIf, Call, Exit}

-- ---- codes

abbrev pub code_of : AluOp → ℕ
code_of Add = 0
code_of Sub = 1
code_of Mul = 2
code_of Div = 3
code_of Sdiv = 3
code_of Or = 4
code_of And = 5
code_of Lsh = 6
code_of Rsh = 7
code_of Mod = 9
code_of Smod = 9
code_of Xor = 10
code_of Arsh = 12

-- the offset that selects the operation, where one does
abbrev pub selecting_offset : AluOp → Option ℕ
selecting_offset Div = Some 0
selecting_offset Sdiv = Some 1
selecting_offset Mod = Some 0
selecting_offset Smod = Some 1
selecting_offset op = None

abbrev pub condition_code : Condition → ℕ
condition_code Equal = 1
condition_code Greater = 2
condition_code GreaterEqual = 3
condition_code Set = 4
condition_code NotEqual = 5
condition_code SignedGreater = 6
condition_code SignedGreaterEqual = 7
condition_code Less = 10
condition_code LessEqual = 11
condition_code SignedLess = 12
condition_code SignedLessEqual = 13

abbrev pub size_code : Size → ℕ
size_code sizes.Word = 0
size_code sizes.Half = 1
size_code sizes.Byte = 2
size_code sizes.Double = 3

-- mode MEM is 3 and MEMSX is 4
abbrev pub load_code : LoadKind → ℕ
load_code loads.Word = 32 * 3 + 8 * 0
load_code loads.Half = 32 * 3 + 8 * 1
load_code loads.Byte = 32 * 3 + 8 * 2
load_code loads.Double = 32 * 3 + 8 * 3
load_code loads.SignedWord = 32 * 4 + 8 * 0
load_code loads.SignedHalf = 32 * 4 + 8 * 1
load_code loads.SignedByte = 32 * 4 + 8 * 2

abbrev pub source_code : Source → ℕ
source_code Imm = 0
source_code Reg = 1

abbrev pub alu_class : Width → ℕ
alu_class W32 = 4
alu_class W64 = 7

abbrev pub jump_class : Width → ℕ
jump_class W32 = 6
jump_class W64 = 5

abbrev pub target_width : SignExtension → Width
target_width From8To32 = W32
target_width From16To32 = W32
target_width From8To64 = W64
target_width From16To64 = W64
target_width From32To64 = W64

abbrev pub extended_bits : SignExtension → ℕ
extended_bits From8To32 = 8
extended_bits From16To32 = 16
extended_bits From8To64 = 8
extended_bits From16To64 = 16
extended_bits From32To64 = 32

abbrev pub end_bits : EndSize → ℕ
end_bits Bits16 = 16
end_bits Bits32 = 32
end_bits Bits64 = 64

abbrev pub end_opcode : ByteOrder → ℕ
end_opcode Little = 16 * 13 + 4
end_opcode Big = 16 * 13 + 8 + 4
end_opcode Swap = 16 * 13 + 7

-- ---- rows

abbrev pub opcode_of : Operation → ℕ
opcode_of (Alu width op source) = 16 * code_of op + 8 * source_code source + alu_class width
opcode_of (Mov width source) = 16 * 11 + 8 * source_code source + alu_class width
opcode_of (Neg width) = 16 * 8 + alu_class width
opcode_of (MovSx extension) = 16 * 11 + 8 + alu_class (target_width extension)
opcode_of (End order size) = end_opcode order
opcode_of LoadWide = 0x18
opcode_of (Load kind) = load_code kind + 1
opcode_of (Store size) = 32 * 3 + 8 * size_code size + 2
opcode_of (StoreRegister size) = 32 * 3 + 8 * size_code size + 3
opcode_of Jump = 5
opcode_of Jump32 = 6
opcode_of (JumpIf width condition source) =
    16 * condition_code condition + 8 * source_code source + jump_class width
opcode_of Call = 16 * 8 + 5
opcode_of Exit = 16 * 9 + 5

-- the fields that choose the operation have its values
abbrev pub IsChosen : Operation → Slot → Type 0
IsChosen (Alu width op source) s = IfSome (selecting_offset op) (λ n. s.offset ≡ n)
IsChosen (Mov width source) s = s.offset ≡ 0
IsChosen (MovSx extension) s = s.offset ≡ extended_bits extension
IsChosen (End order size) s = s.imm ≡ end_bits size
IsChosen LoadWide s = s.src ≡ 0
IsChosen Call s = s.src ≡ 0
IsChosen op s = Unit {0}

-- a slot is of this row
pub record IsRow (op : Operation) (s : Slot) : Type 0 where
  pub opcode : s.opcode ≡ opcode_of op
  pub chosen : IsChosen op s

-- a slot is of no row
abbrev pub IsUnknown : Slot → Type 0
IsUnknown s = (op : Operation) → IsRow op s → ⊥

abbrev pub uses : Bool → Bool → Bool → Bool → Uses
uses dst src offset imm = record { dst = dst; src = src; offset = offset; imm = imm }

abbrev pub is_register : Source → Bool
is_register Imm = false
is_register Reg = true

abbrev pub is_imm : Source → Bool
is_imm Imm = true
is_imm Reg = false

-- The fields that a row uses, or that choose it: all but those of the column Unused. A src that
-- chooses is 0, and counts as unused.
abbrev pub uses_of : Operation → Uses
uses_of (Alu width op source) =
    uses true (is_register source) (is_some (selecting_offset op)) (is_imm source)
uses_of (Mov width source) = uses true (is_register source) true (is_imm source)
uses_of (Neg width) = uses true false false false
uses_of (MovSx extension) = uses true true true false
uses_of (End order size) = uses true false false true
uses_of LoadWide = uses true false false true
uses_of (Load kind) = uses true true true false
uses_of (Store size) = uses true false true true
uses_of (StoreRegister size) = uses true true true false
uses_of Jump = uses false false true false
uses_of Jump32 = uses false false false true
uses_of (JumpIf width condition source) = uses true (is_register source) true (is_imm source)
uses_of Call = uses false false false true
uses_of Exit = uses false false false false

-- ---- faults of fields

-- each register that is used has a name
pub record RegistersAreNamed (u : Uses) (s : Slot) : Type 0 where
  pub dst : u.dst ≡ true → s.dst ≤ 10
  pub src : u.src ≡ true → s.src ≤ 10

pub record UnusedAreZero (u : Uses) (s : Slot) : Type 0 where
  pub dst : u.dst ≡ false → s.dst ≡ 0
  pub src : u.src ≡ false → s.src ≡ 0
  pub offset : u.offset ≡ false → s.offset ≡ 0
  pub imm : u.imm ≡ false → s.imm ≡ 0
