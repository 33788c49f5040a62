use Rattle.std.proofs.Common.{◌∙◌, List, ap, codes, inl, inr, is_some, option_map}
use Rattle.std.specs.Borrow.{Bor}
use Rattle.clap.specs.Words.{Text, found_of}
use Rattle.bpfjobs_cli.proofs.FlagLemmas.{all_is, first_is, first_some}
use Rattle.bpfjobs_cli.proofs.TurnLemmas.{texts}
use Rattle.bpfjobs_cli.proofs.reading.names_tenants.Goals as goal

pub returns-in-Some-clause-some : goal.returns-in-Some-clause-some
returns-in-Some-clause-some c = λ given.
    let all = all_is (found_of c.args.matches.now) (codes "tenant") c.get_strs.result c.get_strs.ensures in
    inl (ap is_some (all ∙ ap (option_map (λ (s : Bor (List (Bor Text))). texts s.now)) c.in-Some.is))

pub returns-in-Some-get_str-clause-some : goal.returns-in-Some-get_str-clause-some
returns-in-Some-get_str-clause-some c = λ given.
    inr (ap is_some (first_some (λ s. s.now) (found_of c.args.matches.now) (codes "tenants") c.get_str.result _ c.get_str.ensures c.in-Some-get_str.is))

pub returns-in-None-get_str-clause-none : goal.returns-in-None-get_str-clause-none
returns-in-None-get_str-clause-none c = λ given.
    let all = all_is (found_of c.args.matches.now) (codes "tenant") c.get_strs.result c.get_strs.ensures in
    let first = first_is (λ s. s.now) (found_of c.args.matches.now) (codes "tenants") c.get_str.result c.get_str.ensures in (
      all ∙ ap (option_map (λ (s : Bor (List (Bor Text))). texts s.now)) c.in-None.is,
      first ∙ ap (option_map (λ (s : Bor Text). s.now)) c.in-None-get_str.is,
    )
