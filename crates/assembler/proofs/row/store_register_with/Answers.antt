use Rattle.std.proofs.Common.{refl}
use Rattle.disassembler.specs.declared.word.Word.TheVariants as word
use Rattle.assembler.proofs.Lines.{no_store_register}
use Rattle.assembler.proofs.row.store_register_with.Goals as goal

pub returns-in_err-base : goal.returns-in_err-base
returns-in_err-base c = rw c.from_residual.ensures (no_store_register c.args.operands.now (word.StoreRegister c.args.size) c.args.size refl c.in_err-base.ensures)
