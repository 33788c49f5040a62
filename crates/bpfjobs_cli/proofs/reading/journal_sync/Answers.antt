use Rattle.std.proofs.Common.{◌∙◌, ap, codes, inl, inr, is_some, option_map, sym}
use Rattle.std.specs.Borrow.{Bor}
use Rattle.clap.specs.Words.{Text, found_of}
use Rattle.bpfjobs_cli.specs.JournalSyncs.{sync_by}
use Rattle.bpfjobs_cli.proofs.FlagLemmas.{first_is, first_some}
use Rattle.bpfjobs_cli.proofs.reading.journal_sync.Goals as goal

pub returns-in-Some-get_str-clause-ok : goal.returns-in-Some-get_str-clause-ok
returns-in-Some-get_str-clause-ok c =
    let said = first_some (λ s. s.now) (found_of c.args.matches.now) (codes "journal-sync") c.get_str.result _ c.get_str.ensures c.in-Some.is in
    let named = first_some (λ s. s.now) (found_of c.args.matches.now) (codes "journal") c.get_str-in-Some-sync_said.result _ c.get_str-in-Some-sync_said.ensures c.in-Some-get_str.is in
    (ap sync_by said ∙ sym c.sync_said.ensures ∙ c.in-Some-sync_said.is, inr (ap is_some named))

pub returns-in-None-get_str-clause-err : goal.returns-in-None-get_str-clause-err
returns-in-None-get_str-clause-err c =
    let said = first_some (λ s. s.now) (found_of c.args.matches.now) (codes "journal-sync") c.get_str.result _ c.get_str.ensures c.in-Some.is in
    let first = first_is (λ s. s.now) (found_of c.args.matches.now) (codes "journal") c.get_str-in-Some-sync_said.result c.get_str-in-Some-sync_said.ensures in
    (ap is_some said, first ∙ ap (option_map (λ (s : Bor Text). s.now)) c.in-None-get_str.is)

pub returns-in-None-sync_said-clause-err : goal.returns-in-None-sync_said-clause-err
returns-in-None-sync_said-clause-err c =
    let said = first_some (λ s. s.now) (found_of c.args.matches.now) (codes "journal-sync") c.get_str.result _ c.get_str.ensures c.in-Some.is in
    ap sync_by said ∙ sym c.sync_said.ensures ∙ c.in-None-sync_said.is

pub returns-in-None-clause-ok : goal.returns-in-None-clause-ok
returns-in-None-clause-ok c =
    let first = first_is (λ s. s.now) (found_of c.args.matches.now) (codes "journal-sync") c.get_str.result c.get_str.ensures in
    let none = first ∙ ap (option_map (λ (s : Bor Text). s.now)) c.in-None.is in
    (ap sync_by none, inl none)
