use Rattle.std.proofs.Common.{refl}
use Rattle.disassembler.specs.declared.word.Word.TheVariants as word
use Rattle.assembler.proofs.Lines.{no_load_wide}
use Rattle.assembler.proofs.row.load_wide_with.Goals as goal

pub returns-in_err-dst : goal.returns-in_err-dst
returns-in_err-dst c = rw c.from_residual.ensures (no_load_wide c.args.operands.now word.LoadWide refl c.in_err-dst.ensures)
