use Rattle.std.proofs.Common.{refl}
use Rattle.disassembler.specs.declared.word.Word.TheVariants as word
use Rattle.assembler.proofs.Lines.{no_store}
use Rattle.assembler.proofs.row.store_with.Goals as goal

pub returns-in_err-base : goal.returns-in_err-base
returns-in_err-base c = rw c.from_residual.ensures (no_store c.args.operands.now (word.Store c.args.size) c.args.size refl c.in_err-base.ensures)
