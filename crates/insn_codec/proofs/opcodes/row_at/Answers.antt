use Rattle.std.proofs.Common.{refl}
use Rattle.insn_codec.proofs.OpcodeTable.{row_right}
use Rattle.insn_codec.proofs.opcodes.row_at.Goals as goal

pub returns : goal.returns
returns c = row_right refl _ _ c.from.ensures
