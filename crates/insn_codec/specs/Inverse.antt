-- Used by private contracts and proofs alone: the row of a slot, worked out from its fields: the
-- table of `Table` read backwards.
use Rattle.std.specs.Prelude.{ℕ, ◌/◌, ◌%◌, Option, Some, None, ◌==◌, ◌&&◌, if◌then◌else◌, option_map, option_and_then}
use Rattle.insn_codec.specs.declared.slot.Slot.{Slot}
use Rattle.insn_codec.specs.declared.insn.Width.{Width}
use Rattle.insn_codec.specs.declared.insn.Width.TheVariants.{W32, W64}
use Rattle.insn_codec.specs.declared.insn.AluOp.{AluOp}
use Rattle.insn_codec.specs.declared.insn.AluOp.TheVariants.{Add, Sub, Mul, Div, Sdiv, Or, And, Lsh, Rsh, Mod, Smod, Xor, Arsh}
use Rattle.insn_codec.specs.declared.insn.Condition.{Condition}
use Rattle.insn_codec.specs.declared.insn.Condition.TheVariants.{Equal, Greater, GreaterEqual, Set, NotEqual, SignedGreater, SignedGreaterEqual, Less, LessEqual, SignedLess, SignedLessEqual}
use Rattle.insn_codec.specs.declared.insn.SignExtension.{SignExtension}
use Rattle.insn_codec.specs.declared.insn.SignExtension.TheVariants.{From8To32, From16To32, From8To64, From16To64, From32To64}
use Rattle.insn_codec.specs.declared.insn.ByteOrder.TheVariants.{Little, Big, Swap}
use Rattle.insn_codec.specs.declared.insn.EndSize.{EndSize}
use Rattle.insn_codec.specs.declared.insn.EndSize.TheVariants.{Bits16, Bits32, Bits64}
use Rattle.insn_codec.specs.declared.insn.Size.{Size}
use Rattle.insn_codec.specs.declared.insn.Size.TheVariants as sizes
use Rattle.insn_codec.specs.declared.insn.LoadKind.{LoadKind}
use Rattle.insn_codec.specs.declared.insn.LoadKind.TheVariants as loads
use Rattle.insn_codec.specs.declared.operation.Source.{Source}
use Rattle.insn_codec.specs.declared.operation.Source.TheVariants.{Imm, Reg}
use Rattle.insn_codec.specs.declared.operation.Operation.{Operation}
use Rattle.insn_codec.specs.declared.operation.Operation.TheVariants.{Alu, Mov, Neg, MovSx, End, LoadWide, Load, Store, StoreRegister, Jump, Jump32, JumpIf, Call, Exit}

abbrev pub source_at : ℕ → Source
source_at opcode = if opcode / 8 % 2 == 0 then Imm else Reg

abbrev pub alu_op_at : ℕ → ℕ → Option AluOp
alu_op_at code offset =
    if code == 0 then Some Add else (
    if code == 1 then Some Sub else (
    if code == 2 then Some Mul else (
    if code == 3 then (if offset == 0 then Some Div else (if offset == 1 then Some Sdiv else None))
    else (
    if code == 4 then Some Or else (
    if code == 5 then Some And else (
    if code == 6 then Some Lsh else (
    if code == 7 then Some Rsh else (
    if code == 9 then (if offset == 0 then Some Mod else (if offset == 1 then Some Smod else None))
    else (
    if code == 10 then Some Xor else (
    if code == 12 then Some Arsh else None))))))))))

abbrev pub extension_at : Width → ℕ → Option SignExtension
extension_at W32 offset = if offset ==
    8 then Some From8To32 else (if offset == 16 then Some From16To32 else None)
extension_at W64 offset = if offset ==
    8 then Some From8To64 else (if offset == 16 then Some From16To64
    else (if offset == 32 then Some From32To64 else None))

abbrev pub end_size_at : ℕ → Option EndSize
end_size_at imm = if imm ==
    16 then Some Bits16
    else (if imm == 32 then Some Bits32 else (if imm == 64 then Some Bits64 else None))

abbrev pub condition_at : ℕ → Option Condition
condition_at code =
    if code == 1 then Some Equal else (
    if code == 2 then Some Greater else (
    if code == 3 then Some GreaterEqual else (
    if code == 4 then Some Set else (
    if code == 5 then Some NotEqual else (
    if code == 6 then Some SignedGreater else (
    if code == 7 then Some SignedGreaterEqual else (
    if code == 10 then Some Less else (
    if code == 11 then Some LessEqual else (
    if code == 12 then Some SignedLess else (
    if code == 13 then Some SignedLessEqual else None))))))))))

abbrev pub size_at : ℕ → Option Size
size_at code =
    if code == 12 then Some sizes.Word else (
    if code == 13 then Some sizes.Half else (
    if code == 14 then Some sizes.Byte else (
    if code == 15 then Some sizes.Double else None)))

abbrev pub load_at : ℕ → Option LoadKind
load_at code =
    if code == 12 then Some loads.Word else (
    if code == 13 then Some loads.Half else (
    if code == 14 then Some loads.Byte else (
    if code == 15 then Some loads.Double else (
    if code == 16 then Some loads.SignedWord else (
    if code == 17 then Some loads.SignedHalf else (
    if code == 18 then Some loads.SignedByte else None))))))

abbrev pub end_row : Width → Source → EndSize → Option Operation
end_row W32 Imm size = Some (End Little size)
end_row W32 Reg size = Some (End Big size)
end_row W64 Imm size = Some (End Swap size)
end_row W64 Reg size = None

unfoldable pub end_at : Width → Slot → Option Operation
end_at width s = option_and_then (end_row width (source_at s.opcode)) (end_size_at s.imm)

abbrev pub neg_row : Width → Source → Option Operation
neg_row width Imm = Some (Neg width)
neg_row width Reg = None

abbrev pub extension_row : Width → Source → ℕ → Option Operation
extension_row width Imm offset = None
extension_row width Reg offset = option_map MovSx (extension_at width offset)

abbrev pub mov_at : Width → Source → ℕ → Option Operation
mov_at width source offset = if offset ==
    0 then Some (Mov width source) else extension_row width source offset

abbrev pub alu_op_row : Width → Source → Option AluOp → Option Operation
alu_op_row width source o = option_map (λ op. Alu width op source) o

unfoldable pub alu_at : Width → Slot → Option Operation
alu_at width s =
    if s.opcode / 16 == 8 then neg_row width (source_at s.opcode) else (
    if s.opcode / 16 == 13 then end_at width s else (
    if s.opcode / 16 == 11 then mov_at width (source_at s.opcode) s.offset else
    alu_op_row width (source_at s.opcode) (alu_op_at (s.opcode / 16) s.offset)))

abbrev pub other_jump_at : Width → Slot → Option Operation
other_jump_at W64 s =
    if s.opcode == 0x05 then Some Jump else (
    if s.opcode == 0x85 then (if s.src == 0 then Some Call else None) else (
    if s.opcode == 0x95 then Some Exit else None))
other_jump_at W32 s = if s.opcode == 0x06 then Some Jump32 else None

abbrev pub jump_row : Width → Slot → Option Condition → Option Operation
jump_row width s (Some condition) = Some (JumpIf width condition (source_at s.opcode))
jump_row width s None = other_jump_at width s

unfoldable pub jump_at : Width → Slot → Option Operation
jump_at width s = jump_row width s (condition_at (s.opcode / 16))

unfoldable pub operation_at : Slot → Option Operation
operation_at s =
    if s.opcode % 8 == 0 then (if (s.opcode == 0x18) && (s.src == 0) then Some LoadWide else None)
    else (
    if s.opcode % 8 == 1 then option_map Load (load_at (s.opcode / 8)) else (
    if s.opcode % 8 == 2 then option_map Store (size_at (s.opcode / 8)) else (
    if s.opcode % 8 == 3 then option_map StoreRegister (size_at (s.opcode / 8)) else (
    if s.opcode % 8 == 4 then alu_at W32 s else (
    if s.opcode % 8 == 5 then jump_at W64 s else (
    if s.opcode % 8 == 6 then jump_at W32 s else alu_at W64 s))))))
