use Rattle.std.proofs.Common.{refl}
use Rattle.disassembler.specs.declared.word.Word.TheVariants as word
use Rattle.assembler.proofs.Lines.{no_jump_if}
use Rattle.assembler.proofs.row.jump_if_with.Goals as goal

pub returns-in_err-dst : goal.returns-in_err-dst
returns-in_err-dst c = rw c.from_residual.ensures (no_jump_if c.args.operands.now (word.JumpIf c.args.width c.args.condition) c.args.width c.args.condition refl c.in_err-dst.ensures)
