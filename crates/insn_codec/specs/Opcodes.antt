-- Used by private contracts alone: the slots that a row of the table of opcodes is for.
use Rattle.std.specs.Prelude.{◌≡◌, ◌≤◌, ℕ}
use Rattle.insn_codec.specs.declared.slot.Slot.{Slot}
use Rattle.insn_codec.specs.declared.operation.Operation.{Operation}
use Rattle.insn_codec.specs.declared.opcodes.Limits.{Limits}
use Rattle.insn_codec.specs.Spelling.{IsClean}

-- no field is larger than its limit
pub record IsWithin (limits : Limits) (s : Slot) : Type 0 where
  pub dst : s.dst ≤ limits.dst
  pub src : s.src ≤ limits.src
  pub offset : s.offset ≤ limits.offset
  pub imm : s.imm ≤ limits.imm

-- each slot of this opcode whose fields are within the limits is a clean one of this operation
abbrev pub ChoosesAlone : ℕ → Operation → Limits → Type 0
ChoosesAlone opcode op limits =
    (s : Slot) → s.opcode ≡ opcode → IsWithin limits s → IsClean op s
