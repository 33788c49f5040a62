use Rattle.std.specs.Fmt.{decimal}
use Rattle.disassembler.specs.Line.{register_text}
use Rattle.assembler.specs.Reading.{IsRegisterNumber, IsUnsigned64}
use Rattle.assembler.proofs.Pairs.{pair_by, no_pair}
use Rattle.disassembler.proofs.Texts.{free_register}
use Rattle.assembler.proofs.pair.register_and_value.Goals as goal

pub returns : goal.returns
returns c = pair_by register_text IsRegisterNumber decimal IsUnsigned64 free_register _ _ _ c.in_ok-front.ensures.found _ _ _ c.zip.ensures c.register_from.ensures c.value_from.ensures

pub returns-in_err-front : goal.returns-in_err-front
returns-in_err-front c = rw c.from_residual.ensures (no_pair register_text IsRegisterNumber decimal IsUnsigned64 free_register _ c.in_err-front.ensures.none)
