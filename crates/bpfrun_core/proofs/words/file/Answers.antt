use Rattle.std.proofs.Common.{◌∙◌, codes, refl, sym}
use Rattle.clap.specs.Words.{found_of}
use Rattle.bpfjobs_cli.proofs.NumberLemmas.{never_none}
use Rattle.bpfjobs_cli.proofs.FlagLemmas.{first_is, first_some}
use Rattle.bpfrun_core.proofs.words.file.Goals as goal

pub unreachable-requires : goal.unreachable-requires
unreachable-requires c =
    let there = sym (first_is (λ s. s.now) (found_of c.args.matches.now) (codes "file") c.get_str.result c.get_str.ensures) ∙ c.requires.1 in
    never_none c.requires.0 _ there (rw c.in-None.is refl)

pub returns : goal.returns
returns c = first_some (λ s. s.now) (found_of c.args.matches.now) (codes "file") c.get_str.result c.in-Some.file c.get_str.ensures c.in-Some.is
