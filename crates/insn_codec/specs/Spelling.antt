-- How an instruction is spelled, and what a refusal says.
use Rattle.std.specs.Prelude.{◌≡◌, ◌≢◌, ◌⊎◌, ℕ, ◌+◌, ◌*◌, ◌/◌, ◌%◌, ◌<◌, ◌≤◌, ◌^◌, List, [], ◌∷◌, ◌++◌, length, drop, map, unwrap_or, FitsSigned}
use Rattle.std.specs.List.{flat_map, AllByRecursion}
use Rattle.std.specs.Int.{w16, w32, cast_unsigned}
use Rattle.insn_codec.specs.Limits.{max_slots}
use Rattle.insn_codec.specs.declared.slot.Slot.{Slot}
use Rattle.insn_codec.specs.declared.insn.Operand.{Operand}
use Rattle.insn_codec.specs.declared.insn.Operand.TheVariants as operand
use Rattle.insn_codec.specs.declared.insn.Insn.{Insn}
use Rattle.insn_codec.specs.declared.insn.Insn.TheVariants.{Alu, Mov, Neg, MovSx, End, LoadWide, Load, Store, StoreRegister, Jump, Jump32, JumpIf, Call, Exit}
use Rattle.insn_codec.specs.declared.insn.Placed.{Placed}
use Rattle.insn_codec.specs.declared.operation.Source.{Source}
use Rattle.insn_codec.specs.declared.operation.Source.TheVariants as source
use Rattle.insn_codec.specs.declared.operation.Operation.{Operation}
use Rattle.insn_codec.specs.declared.operation.Operation.TheVariants as row
use Rattle.insn_codec.specs.declared.fault.CodecFault.{CodecFault}
use Rattle.insn_codec.specs.declared.fault.CodecFault.TheVariants as fault
use Rattle.insn_codec.specs.Layout.{slot_bytes, slot_at}
use Rattle.insn_codec.specs.Table.{opcode_of, selecting_offset, extended_bits, end_bits, uses_of, IsRow, IsUnknown, RegistersAreNamed, UnusedAreZero}

-- ---- spellings

abbrev pub slot : Operation → ℕ → ℕ → ℕ → ℕ → Slot
slot op dst src offset imm =
    record { opcode = opcode_of op; dst = dst; src = src; offset = offset; imm = imm }

-- the second operand: where it stands, and what the fields src and imm hold of it
abbrev pub operand_source : Operand → Source
operand_source (operand.Imm imm) = source.Imm
operand_source (operand.Reg src) = source.Reg

abbrev pub operand_src : Operand → ℕ
operand_src (operand.Imm imm) = 0
operand_src (operand.Reg src) = src

abbrev pub operand_imm : Operand → ℕ
operand_imm (operand.Imm imm) = cast_unsigned w32 imm
operand_imm (operand.Reg src) = 0

-- the row that spells an instruction
abbrev pub row_of : Insn → Operation
row_of (Alu w op dst src) = row.Alu w op (operand_source src)
row_of (Mov w dst src) = row.Mov w (operand_source src)
row_of (MovSx e dst src) = row.MovSx e
row_of (Neg w dst) = row.Neg w
row_of (End order size dst) = row.End order size
row_of (LoadWide dst value) = row.LoadWide
row_of (Load kind dst base offset) = row.Load kind
row_of (Store size base offset imm) = row.Store size
row_of (StoreRegister size base offset src) = row.StoreRegister size
row_of (Jump offset) = row.Jump
row_of (Jump32 offset) = row.Jump32
row_of (JumpIf w c dst src offset) = row.JumpIf w c (operand_source src)
row_of (Call helper) = row.Call
row_of Exit = row.Exit

-- the fields of the first slot of an instruction: dst, src, offset, imm
abbrev pub first_slot : Insn → Slot
first_slot (Alu w op dst src) = slot (row.Alu w op (operand_source src)) dst (operand_src src)
    (unwrap_or (selecting_offset op) 0) (operand_imm src)
first_slot (Mov w dst src) =
    slot (row.Mov w (operand_source src)) dst (operand_src src) 0 (operand_imm src)
first_slot (MovSx e dst src) = slot (row.MovSx e) dst src (extended_bits e) 0
first_slot (Neg w dst) = slot (row.Neg w) dst 0 0 0
first_slot (End order size dst) = slot (row.End order size) dst 0 0 (end_bits size)
first_slot (LoadWide dst value) = slot row.LoadWide dst 0 0 (value % 2 ^ 32)
first_slot (Load kind dst base offset) = slot (row.Load kind) dst base (cast_unsigned w16 offset) 0
first_slot (Store size base offset imm) =
    slot (row.Store size) base 0 (cast_unsigned w16 offset) (cast_unsigned w32 imm)
first_slot (StoreRegister size base offset src) =
    slot (row.StoreRegister size) base src (cast_unsigned w16 offset) 0
first_slot (Jump offset) = slot row.Jump 0 0 (cast_unsigned w16 offset) 0
first_slot (Jump32 offset) = slot row.Jump32 0 0 0 (cast_unsigned w32 offset)
first_slot (JumpIf w c dst src offset) =
    slot (row.JumpIf w c (operand_source src)) dst (operand_src src) (cast_unsigned w16 offset)
    (operand_imm src)
first_slot (Call helper) = slot row.Call 0 0 0 helper
first_slot Exit = slot row.Exit 0 0 0 0

-- four zero bytes, then imm
abbrev pub half : ℕ → Slot
half imm = record { opcode = 0; dst = 0; src = 0; offset = 0; imm = imm }

-- what a wide instruction has after its first slot
abbrev pub other_slots : Insn → List Slot
other_slots (LoadWide dst value) = half (value / 2 ^ 32) ∷ []
other_slots insn = []

abbrev pub slots_of : Insn → List Slot
slots_of insn = first_slot insn ∷ other_slots insn

abbrev pub spelling : Insn → List ℕ
spelling insn = flat_map slot_bytes (slots_of insn)

abbrev pub spellings : List Insn → List ℕ
spellings insns = flat_map spelling insns

-- the instructions with their slots, of which the first is n
abbrev pub placed_from : ℕ → List Insn → List Placed
placed_from n [] = []
placed_from n (insn ∷ insns) =
    record { slot = n; insn = insn } ∷ placed_from (n + length (slots_of insn)) insns

-- ---- values that have a spelling

abbrev pub IsOperand : Operand → Type 0
IsOperand (operand.Imm imm) = FitsSigned w32 imm
IsOperand (operand.Reg src) = src ≤ 10

abbrev pub IsInsn : Insn → Type 0
IsInsn (Alu w op dst src) = (dst ≤ 10) × IsOperand src
IsInsn (Mov w dst src) = (dst ≤ 10) × IsOperand src
IsInsn (Neg w dst) = dst ≤ 10
IsInsn (MovSx e dst src) = (dst ≤ 10) × (src ≤ 10)
IsInsn (End order size dst) = dst ≤ 10
IsInsn (LoadWide dst value) = (dst ≤ 10) × (value < 2 ^ 64)
IsInsn (Load kind dst base offset) = (dst ≤ 10) × (base ≤ 10) × FitsSigned w16 offset
IsInsn (Store size base offset imm) = (base ≤ 10) × FitsSigned w16 offset × FitsSigned w32 imm
IsInsn (StoreRegister size base offset src) = (base ≤ 10) × FitsSigned w16 offset × (src ≤ 10)
IsInsn (Jump offset) = FitsSigned w16 offset
IsInsn (Jump32 offset) = FitsSigned w32 offset
IsInsn (JumpIf w c dst src offset) = (dst ≤ 10) × IsOperand src × FitsSigned w16 offset
IsInsn (Call helper) = helper < 2 ^ 32
IsInsn Exit = Unit {0}

-- ---- faults

-- the slot begins an instruction, as far as its fields say
pub record IsClean (op : Operation) (s : Slot) : Type 0 where
  pub is_row : IsRow op s
  pub named : RegistersAreNamed (uses_of op) s
  pub zero_rest : UnusedAreZero (uses_of op) s

abbrev pub HasBadRegister : Slot → Type 0
HasBadRegister s = (op : Operation) × IsRow op s × (RegistersAreNamed (uses_of op) s → ⊥)

-- of the first slot, or of the half that follows a wide one
abbrev pub HasUnused : Slot → List ℕ → Type 0
HasUnused s after =
    (op : Operation) × IsRow op s × RegistersAreNamed (uses_of op) s
    × ((UnusedAreZero (uses_of op) s → ⊥)
    ⊎ ((op ≡ row.LoadWide) × (0 < length after) × ((imm : ℕ) → slot_at after ≢ half imm)))

abbrev pub IsHalfWide : Slot → List ℕ → Type 0
IsHalfWide s after = IsClean row.LoadWide s × (after ≡ [])

-- the bytes fall into before, which is spelled, and rest, which isn't empty and begins at this slot
pub record StandsAt (slot : ℕ) (bytes rest : List ℕ) (before : List Insn) : Type 0 where
  pub parts : bytes ≡ spellings before ++ rest
  pub fit : AllByRecursion IsInsn before
  pub place : 8 * slot ≡ length (spellings before)
  pub more : 0 < length rest

abbrev pub IsAt : ℕ → List ℕ → (List ℕ → Type 0) → Type 0
IsAt slot bytes P = (before : List Insn) × (rest : List ℕ) × StandsAt slot bytes rest before
    × P rest

-- a length that a program may have
pub record IsWhole (bytes : List ℕ) : Type 0 where
  pub some : 0 < length bytes
  pub even : length bytes % 8 ≡ 0
  pub short : length bytes ≤ 8 * max_slots

abbrev pub IsRefusal : CodecFault → List ℕ → Type 0
IsRefusal fault.Empty bytes = bytes ≡ []
IsRefusal fault.Ragged bytes = length bytes % 8 ≢ 0
IsRefusal fault.TooLong bytes = (length bytes % 8 ≡ 0) × (8 * max_slots < length bytes)
IsRefusal (fault.UnknownOp slot) bytes =
    IsWhole bytes × IsAt slot bytes (λ rest. IsUnknown (slot_at rest))
IsRefusal (fault.BadRegister slot) bytes =
    IsWhole bytes × IsAt slot bytes (λ rest. HasBadRegister (slot_at rest))
IsRefusal (fault.UnusedField slot) bytes =
    IsWhole bytes × IsAt slot bytes (λ rest. HasUnused (slot_at rest) (drop 8 rest))
IsRefusal (fault.HalfWide slot) bytes =
    IsWhole bytes × IsAt slot bytes (λ rest. IsHalfWide (slot_at rest) (drop 8 rest))
IsRefusal fault.NoMemory bytes = IsWhole bytes

-- the program that bytes spell
pub record IsProgram (placed : List Placed) (bytes : List ℕ) : Type 0 where
  pub whole : IsWhole bytes
  pub fit : AllByRecursion IsInsn (map (λ p. p.insn) placed)
  pub spelled : bytes ≡ spellings (map (λ p. p.insn) placed)
  pub slots : placed ≡ placed_from 0 (map (λ p. p.insn) placed)

-- why a list of instructions has no bytes
abbrev pub IsUnspelled : CodecFault → List Insn → Type 0
IsUnspelled fault.Empty insns = insns ≡ []
IsUnspelled fault.TooLong insns = 8 * max_slots < length (spellings insns)
IsUnspelled fault.NoMemory insns = IsWhole (spellings insns)
IsUnspelled fault insns = ⊥
