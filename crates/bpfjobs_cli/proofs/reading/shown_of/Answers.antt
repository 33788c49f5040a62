use Rattle.std.proofs.Common.{codes}
use Rattle.clap.specs.Words.{found_of}
use Rattle.bpfjobs_cli.proofs.FlagLemmas.{first_is}
use Rattle.bpfjobs_cli.proofs.reading.shown_of.Goals as goal

pub returns : goal.returns
returns c = record {
  traces = c.flag.ensures;
  trace_json = first_is (λ s. s.now) (found_of c.args.matches.now) (codes "trace-json") c.get_str.result c.get_str.ensures;
  tree = first_is (λ s. s.now) (found_of c.args.matches.now) (codes "tree") c.get_str-2.result c.get_str-2.ensures;
}
