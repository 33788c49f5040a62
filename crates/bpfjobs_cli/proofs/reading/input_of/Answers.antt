use Rattle.std.proofs.Common.{◌∙◌, Some, ap, codes, inl, inr, option_map, sym, true≢false}
use Rattle.std.specs.Borrow.{Bor}
use Rattle.clap.specs.Words.{Text, found_of}
use Rattle.bpfjobs_cli.proofs.FlagLemmas.{first_is, first_some, flag_some}
use Rattle.bpfjobs_cli.proofs.reading.input_of.Goals as goal

pub returns-then-eq : goal.returns-then-eq
returns-then-eq c =
    let there = first_some (λ s. s.now) (found_of c.args.matches.now) (codes "input") c.get_str.result c.in-Some.path c.get_str.ensures c.in-Some.is in
    inr ((flag_some _ c.in-Some.path.now (codes "-") c.eq.result there c.eq.ensures).0 c.if-eq.true)

pub returns-else-eq : goal.returns-else-eq
returns-else-eq c =
    let there = first_some (λ s. s.now) (found_of c.args.matches.now) (codes "input") c.get_str.result c.in-Some.path c.get_str.ensures c.in-Some.is in
    (there, λ same. true≢false (sym ((flag_some _ c.in-Some.path.now (codes "-") c.eq.result there c.eq.ensures).1 (there ∙ ap Some same)) ∙ c.if-eq.false))

pub returns-in-None : goal.returns-in-None
returns-in-None c =
    let first = first_is (λ s. s.now) (found_of c.args.matches.now) (codes "input") c.get_str.result c.get_str.ensures in
    inl (first ∙ ap (option_map (λ (s : Bor Text). s.now)) c.in-None.is)
