use Rattle.std.proofs.Common.{codes}
use Rattle.clap.specs.Words.{found_of}
use Rattle.bpfjobs_cli.proofs.FlagLemmas.{first_is, first_some, flag_none, flag_some}
use Rattle.bpfrun_core.proofs.words.flag.Goals as goal

pub returns-in-Some : goal.returns-in-Some
returns-in-Some c =
    let there = first_some (λ s. s.now) (found_of c.args.matches.now) c.args.id.now c.get_str.result c.in-Some.text c.get_str.ensures c.in-Some.is in
    flag_some _ c.in-Some.text.now (codes "true") c.eq.result there c.eq.ensures

pub returns-in-None : goal.returns-in-None
returns-in-None c =
    let there = first_is (λ s. s.now) (found_of c.args.matches.now) c.args.id.now c.get_str.result c.get_str.ensures in
    flag_none _ (codes "true") (rw c.in-None.is at there)
