use Rattle.std.proofs.Common.{◌≡◌, ◌∙◌, [], List, Option, ap, codes, map, option_map, subst, sym, unwrap_or}
use Rattle.std.specs.Prelude.{IfErr, IfOk}
use Rattle.std.specs.Borrow.{Bor}
use Rattle.clap.specs.Words.{Text, found_of, rows_of}
use Rattle.bpfjobs_cli.specs.Commands.{source_words}
use Rattle.bpfjobs_cli.specs.JobUsages.{IsWordsUsage}
use Rattle.bpfjobs_cli.specs.JobWords.{said_source, source_said}
use Rattle.bpfjobs_cli.proofs.FlagLemmas.{all_is}
use Rattle.bpfjobs_cli.proofs.TurnLemmas.{texts}
use Rattle.bpfjobs_cli.proofs.job_reading.sources_of.Goals as goal

pub returns-in-Some-clause-ok : goal.returns-in-Some-clause-ok
returns-in-Some-clause-ok c =
    let all = all_is (found_of c.args.matches.now) (codes "sources") c.get_strs.result c.get_strs.ensures in
    let is : source_words (rows_of (found_of c.args.matches.now)) ≡ texts c.in-Some.words.now = ap (λ (o : Option (List Text)). unwrap_or o []) (all ∙ ap (option_map (λ (s : Bor (List (Bor Text))). texts s.now)) c.in-Some.is) in
    subst (λ (ws : List Text). IfOk c.sources_of_words.result (λ ss. map source_said ws ≡ map said_source ss.items)) (sym is) c.sources_of_words.ensures.ok

pub returns-in-Some-clause-err : goal.returns-in-Some-clause-err
returns-in-Some-clause-err c =
    let all = all_is (found_of c.args.matches.now) (codes "sources") c.get_strs.result c.get_strs.ensures in
    let is : source_words (rows_of (found_of c.args.matches.now)) ≡ texts c.in-Some.words.now = ap (λ (o : Option (List Text)). unwrap_or o []) (all ∙ ap (option_map (λ (s : Bor (List (Bor Text))). texts s.now)) c.in-Some.is) in
    subst (λ (ws : List Text). IfErr c.sources_of_words.result (λ u. IsWordsUsage ws u)) (sym is) c.sources_of_words.ensures.err

pub returns-in-None-clause-ok : goal.returns-in-None-clause-ok
returns-in-None-clause-ok c =
    let all = all_is (found_of c.args.matches.now) (codes "sources") c.get_strs.result c.get_strs.ensures in
    let is : source_words (rows_of (found_of c.args.matches.now)) ≡ [] = ap (λ (o : Option (List Text)). unwrap_or o []) (all ∙ ap (option_map (λ (s : Bor (List (Bor Text))). texts s.now)) c.in-None.is) in
    ap (map source_said) is ∙ sym (ap (map said_source) c.new.ensures.items)
