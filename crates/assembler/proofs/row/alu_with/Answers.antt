use Rattle.std.proofs.Common.{refl}
use Rattle.disassembler.specs.declared.word.Word.TheVariants as word
use Rattle.assembler.proofs.Lines.{no_alu}
use Rattle.assembler.proofs.row.alu_with.Goals as goal

pub returns-in_err-dst : goal.returns-in_err-dst
returns-in_err-dst c = rw c.from_residual.ensures (no_alu c.args.operands.now (word.Alu c.args.width c.args.op) c.args.width c.args.op refl c.in_err-dst.ensures)
