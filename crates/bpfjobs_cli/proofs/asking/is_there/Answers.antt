use Rattle.clap.specs.Words.{found_of}
use Rattle.bpfjobs_cli.proofs.AskLemmas.{there_is}
use Rattle.bpfjobs_cli.proofs.asking.is_there.Goals as goal

pub returns : goal.returns
returns c = there_is (λ s. s.now) (found_of c.args.matches.now) c.args.id.now c.get_str.result _ c.get_str.ensures c.is_some.ensures
