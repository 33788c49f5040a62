use Rattle.std.proofs.Common.{refl}
use Rattle.disassembler.specs.declared.word.Word.TheVariants as word
use Rattle.assembler.proofs.Lines.{no_call}
use Rattle.assembler.proofs.row.call_with.Goals as goal

pub returns-else-helper-lt4294967296 : goal.returns-else-helper-lt4294967296
returns-else-helper-lt4294967296 c = no_call c.args.operands.now word.Call _ refl c.in_ok-helper.ensures.0 c.in_ok-helper.ensures.1 c.if-helper-lt4294967296.false
