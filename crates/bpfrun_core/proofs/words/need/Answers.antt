use Rattle.std.proofs.Common.{codes, arith}
use Rattle.std.specs.Str.Parse.{ParsesUnsigned, ExplainsUnsignedError, HasUnsignedDigitsIfOk}
use Rattle.clap.specs.Words.{found_of}
use Rattle.bpfjobs_cli.proofs.NumberLemmas.{maybe_read}
use Rattle.bpfrun_core.proofs.words.need.Goals as goal

pub returns : goal.returns
returns c =
    maybe_read (λ bs r. ParsesUnsigned 32 10 bs r × ExplainsUnsignedError 10 bs r × HasUnsignedDigitsIfOk bs r) 32 0 4294967295 (found_of c.args.matches.now) (codes "need")
    c.requires.0 c.get_one.result c.requires.1 c.get_one.ensures.none c.get_one.ensures.value (λ u x g. g.0) (omega arith)
