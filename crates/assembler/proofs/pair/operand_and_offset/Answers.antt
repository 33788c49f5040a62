use Rattle.insn_codec.specs.Spelling.{IsOperand}
use Rattle.disassembler.specs.Line.{signed_text}
use Rattle.disassembler.specs.Line.{operand_text}
use Rattle.assembler.specs.Reading.{IsOffset}
use Rattle.assembler.proofs.Pairs.{pair_by, no_pair}
use Rattle.disassembler.proofs.Texts.{free_operand}
use Rattle.assembler.proofs.pair.operand_and_offset.Goals as goal

pub returns : goal.returns
returns c = pair_by operand_text IsOperand signed_text IsOffset free_operand _ _ _ c.in_ok-front.ensures.found _ _ _ c.zip.ensures c.operand_from.ensures c.offset_from.ensures

pub returns-in_err-front : goal.returns-in_err-front
returns-in_err-front c = rw c.from_residual.ensures (no_pair operand_text IsOperand signed_text IsOffset free_operand _ c.in_err-front.ensures.none)
