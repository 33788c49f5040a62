-- Used by private contracts and proofs alone: what one step of decoding says.
use Rattle.std.specs.Prelude.{◌≡◌, ◌≢◌, ℕ, ◌*◌, ◌<◌, ◌≤◌, List, [], ◌∷◌, ◌++◌, length, drop}
use Rattle.insn_codec.specs.declared.insn.Insn.{Insn}
use Rattle.insn_codec.specs.declared.fault.CodecFault.{CodecFault}
use Rattle.insn_codec.specs.declared.fault.CodecFault.TheVariants as fault
use Rattle.std.specs.Int.{w32, cast_unsigned}
use Rattle.insn_codec.specs.declared.slot.Slot.{Slot}
use Rattle.insn_codec.specs.declared.decoder.SlotFault.{SlotFault}
use Rattle.insn_codec.specs.declared.decoder.SlotFault.TheVariants.{UnknownOp, BadRegister, UnusedField, HalfWide}
use Rattle.insn_codec.specs.declared.insn.Operand.{Operand}
use Rattle.insn_codec.specs.declared.insn.Operand.TheVariants as operand
use Rattle.insn_codec.specs.declared.operation.Source.{Source}
use Rattle.insn_codec.specs.declared.operation.Source.TheVariants as source
use Rattle.insn_codec.specs.declared.operation.Operation.{Operation}
use Rattle.insn_codec.specs.declared.operation.Operation.TheVariants as row
use Rattle.insn_codec.specs.Layout.{slot_at}
use Rattle.insn_codec.specs.Table.{IsUnknown, IsRow, uses_of, RegistersAreNamed, UnusedAreZero}
use Rattle.insn_codec.specs.Spelling.{first_slot, other_slots, half, spelling, IsInsn, slots_of, HasBadRegister, HasUnused, IsHalfWide}

-- a fault at the front of rest
abbrev pub StepFault : SlotFault → List ℕ → Type 0
StepFault UnknownOp rest = IsUnknown (slot_at rest)
StepFault BadRegister rest = HasBadRegister (slot_at rest)
StepFault UnusedField rest = HasUnused (slot_at rest) (drop 8 rest)
StepFault HalfWide rest = IsHalfWide (slot_at rest) (drop 8 rest)

-- a fault of the fields of one slot
abbrev pub FieldFault : SlotFault → Slot → Type 0
FieldFault UnknownOp s = IsUnknown s
FieldFault BadRegister s = HasBadRegister s
FieldFault UnusedField s = (op : Operation) × IsRow op s × RegistersAreNamed (uses_of op) s
    × (UnusedAreZero (uses_of op) s → ⊥)
FieldFault HalfWide s = ⊥

abbrev pub high_slots : Operation → ℕ → List Slot
high_slots row.LoadWide high = half high ∷ []
high_slots op high = []

-- the fields of the second operand, as a row uses them
abbrev pub IsSource : Source → Slot → Type 0
IsSource source.Imm s = s.src ≡ 0
IsSource source.Reg s = (s.src ≤ 10) × (s.imm ≡ 0)

abbrev pub SpellsOperand : Source → Slot → Operand → Type 0
SpellsOperand source.Imm s (operand.Imm imm) = cast_unsigned w32 imm ≡ s.imm
SpellsOperand source.Imm s (operand.Reg src) = ⊥
SpellsOperand source.Reg s (operand.Imm imm) = ⊥
SpellsOperand source.Reg s (operand.Reg src) = src ≡ s.src

-- an instruction of this row, whose spelling begins with these fields
pub record IsSpelledBy (insn : Insn) (op : Operation) (s : Slot) (high : ℕ) : Type 0 where
  pub first : first_slot insn ≡ s
  pub others : other_slots insn ≡ high_slots op high
  pub fits : IsInsn insn

-- a fault of what follows the first slot of a wide instruction
abbrev pub HalfFault : SlotFault → List ℕ → Type 0
HalfFault UnknownOp after = ⊥
HalfFault BadRegister after = ⊥
HalfFault UnusedField after = (0 < length after) × ((imm : ℕ) → slot_at after ≢ half imm)
HalfFault HalfWide after = after ≡ []

-- the instruction's spelling is at the front
abbrev pub BeginsWith : Insn → List ℕ → Type 0
BeginsWith insn rest = IsInsn insn × (8 * length (slots_of insn) ≤ length rest)
    × (rest ≡ spelling insn ++ drop (8 * length (slots_of insn)) rest)

abbrev pub fault_at : SlotFault → ℕ → CodecFault
fault_at UnknownOp slot = fault.UnknownOp slot
fault_at BadRegister slot = fault.BadRegister slot
fault_at UnusedField slot = fault.UnusedField slot
fault_at HalfWide slot = fault.HalfWide slot
