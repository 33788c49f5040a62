use Rattle.std.proofs.Common.{rules}
use Rattle.clap.specs.Words.{found_of}
use Rattle.bpfjobs_cli.proofs.FlagLemmas.{first_is, first_some}
use Rattle.bpfjobs_cli.proofs.reading.text.Goals as goal

pub returns-in_ok-from_str-in-Some : goal.returns-in_ok-from_str-in-Some
returns-in_ok-from_str-in-Some c =
    let there = first_some (λ s. s.now) (found_of c.args.matches.now) c.args.id.now c.get_str.result c.in-Some.text c.get_str.ensures c.in-Some.is in
    search (rules, there)

pub returns-in-None : goal.returns-in-None
returns-in-None c =
    let there = first_is (λ s. s.now) (found_of c.args.matches.now) c.args.id.now c.get_str.result c.get_str.ensures in
    rw c.in-None.is at there
