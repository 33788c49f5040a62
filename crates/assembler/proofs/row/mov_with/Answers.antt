use Rattle.std.proofs.Common.{refl}
use Rattle.disassembler.specs.declared.word.Word.TheVariants as word
use Rattle.assembler.proofs.Lines.{no_mov}
use Rattle.assembler.proofs.row.mov_with.Goals as goal

pub returns-in_err-dst : goal.returns-in_err-dst
returns-in_err-dst c = rw c.from_residual.ensures (no_mov c.args.operands.now (word.Mov c.args.width) c.args.width refl c.in_err-dst.ensures)
