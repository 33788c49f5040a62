use Rattle.std.proofs.Common.{◌≡◌, Some, arith}
use Rattle.std.specs.Str.Parse.{ParsesUnsigned, ExplainsUnsignedError, HasUnsignedDigitsIfOk}
use Rattle.clap.specs.Words.{found_of}
use Rattle.bpfjobs_cli.proofs.NumberLemmas.{never_none, number_read, some_number}
use Rattle.bpfjobs_cli.proofs.reading.number.Goals as goal

pub unreachable-requires : goal.unreachable-requires
unreachable-requires c =
    let is : c.get_one.result ≡ Some c.requires.0 =
    some_number (λ bs r. ParsesUnsigned 32 10 bs r × ExplainsUnsignedError 10 bs r × HasUnsignedDigitsIfOk bs r) 32 c.args.low c.args.high c.requires.0
    (found_of c.args.matches.now) c.args.id.now c.get_one.result c.requires.1 c.get_one.ensures.value (λ u x g. g.0) (omega (arith, c.ranges.high.fits)) in
    never_none c.requires.0 c.get_one.result is c.in-None.is

pub returns : goal.returns
returns c =
    let is : c.get_one.result ≡ Some c.requires.0 =
    some_number (λ bs r. ParsesUnsigned 32 10 bs r × ExplainsUnsignedError 10 bs r × HasUnsignedDigitsIfOk bs r) 32 c.args.low c.args.high c.requires.0
    (found_of c.args.matches.now) c.args.id.now c.get_one.result c.requires.1 c.get_one.ensures.value (λ u x g. g.0) (omega (arith, c.ranges.high.fits)) in
    number_read (found_of c.args.matches.now) c.args.id.now c.args.low c.args.high c.requires.0 c.in-Some.number c.get_one.result c.requires.1 is c.in-Some.is
