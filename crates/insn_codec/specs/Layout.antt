-- The eight bytes of a slot, and the fields in them (RFC 9669, section 3).
use Rattle.std.specs.Prelude.{ℕ, ◌+◌, ◌*◌, ◌<◌, ◌/◌, ◌%◌, ◌^◌, List, ◌∷◌, ◌++◌, drop, slice_index}
use Rattle.byteorder.specs.Endian.{little_bytes, little_number}
use Rattle.insn_codec.specs.declared.slot.Slot.{Slot}

-- opcode, register byte, offset and imm, the two low byte first
abbrev pub slot_bytes : Slot → List ℕ
slot_bytes s = s.opcode ∷ (16 * s.src + s.dst) ∷ (little_bytes 2 s.offset ++ little_bytes 4 s.imm)

-- the fields that the first eight bytes hold
abbrev pub slot_at : List ℕ → Slot
slot_at bytes = record {
  opcode = slice_index bytes 0;
  dst = slice_index bytes 1 % 16;
  src = slice_index bytes 1 / 16;
  offset = little_number 2 (drop 2 bytes);
  imm = little_number 4 (drop 4 bytes);
}

-- fields that have bytes
pub record FitsSlot (s : Slot) : Type 0 where
  pub opcode : s.opcode < 2 ^ 8
  pub dst : s.dst < 2 ^ 4
  pub src : s.src < 2 ^ 4
  pub offset : s.offset < 2 ^ 16
  pub imm : s.imm < 2 ^ 32
