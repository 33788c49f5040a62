use Rattle.std.proofs.Common.{arith, codes}
use Rattle.std.specs.Str.Parse.{ParsesUnsigned, ExplainsUnsignedError, HasUnsignedDigitsIfOk}
use Rattle.clap.specs.Words.{found_of}
use Rattle.bpfjobs_cli.proofs.NumberLemmas.{maybe_read}
use Rattle.bpfjobs_cli.proofs.asking.first_job.Goals as goal

pub returns : goal.returns
returns c =
    maybe_read (λ bs r. ParsesUnsigned 64 10 bs r × ExplainsUnsignedError 10 bs r × HasUnsignedDigitsIfOk bs r) 64 1 18446744073709551615 (found_of c.args.matches.now) (codes "from")
    c.requires.0 c.get_one.result c.requires.1 c.get_one.ensures.none c.get_one.ensures.value (λ u x g. g.0) (omega arith)
