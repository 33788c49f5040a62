use Rattle.disassembler.specs.Line.{register_text}
use Rattle.assembler.specs.Reading.{IsRegisterNumber, IsPlace, place_text}
use Rattle.assembler.proofs.Pairs.{pair_by, no_pair, free_place}
use Rattle.assembler.proofs.pair.memory_and_register.Goals as goal

pub returns : goal.returns
returns c = pair_by place_text IsPlace register_text IsRegisterNumber free_place _ _ _ c.in_ok-front.ensures.found _ _ _ c.zip.ensures c.memory_from.ensures c.register_from.ensures

pub returns-in_err-front : goal.returns-in_err-front
returns-in_err-front c = rw c.from_residual.ensures (no_pair place_text IsPlace register_text IsRegisterNumber free_place _ c.in_err-front.ensures.none)
