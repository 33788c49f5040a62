use Rattle.std.proofs.Common.{ap, sym, map, string_bytes, is_some, true, true≢false, ◌≡◌, ◌∙◌}
use Rattle.clap.specs.Words.{fault_of, found_of, is_simple, is_simple_and_free, rows_of, subcommand_of, subcommand_rows_of, takes}
use Rattle.clap.proofs.TakesLemmas.{some_rows}
use Rattle.bpfjobs_cli.proofs.EndpointLemmas.{command_usage}
use Rattle.bpfjobs_cli.proofs.LineLemmas.{entered_says, is_entered, is_plain, of_kind, plain}
use Rattle.bpfjobs_cli.proofs.NumberLemmas.{pair_of, named}
use Rattle.bpfjobs_cli.proofs.RangeLemmas.{command_range}
use Rattle.bpfjobs_cli.proofs.reading.request.Goals as goal

pub command_of-requires : goal.command_of-requires
command_of-requires c =
    let words = map string_bytes c.args.words.now in
    let entered = (c.in-Ok.ensures.matches (ap is_simple c.in_ok-bpfjobs.ensures ∙ is_plain)).1 in
    let found = pair_of (subcommand_rows_of c.in-Ok.matches) c.in-Some.name.now (rows_of (found_of c.in-Some.inner.now)) (c.in-Some.ensures.name ∙ named _ _ _) c.in-Some.ensures.rows in
    entered_says words _ c.in_ok-bpfjobs.ensures (c.in-Ok.ensures.kinds (ap is_simple_and_free c.in_ok-bpfjobs.ensures ∙ plain)) c.in-Some.name.now (rows_of (found_of c.in-Some.inner.now)) (sym entered ∙ found)

pub unreachable-requires : goal.unreachable-requires
unreachable-requires c =
    let words = map string_bytes c.args.words.now in
    let entered = (c.in-Ok.ensures.matches (ap is_simple c.in_ok-bpfjobs.ensures ∙ is_plain)).1 in
    let there = is_entered words _ c.in_ok-bpfjobs.ensures (c.in-Ok.ensures.kinds (ap is_simple_and_free c.in_ok-bpfjobs.ensures ∙ plain)) in
    let met : is_some c.subcommand.result ≡ true = c.subcommand.ensures.variant ∙ some_rows _ ∙ ap is_some entered ∙ there in
    true≢false (sym met ∙ ap is_some c.in-None.is)

pub returns-in-Ok-command_of-clause-ok : goal.returns-in-Ok-command_of-clause-ok
returns-in-Ok-command_of-clause-ok c =
    let entered = (c.in-Ok.ensures.matches (ap is_simple c.in_ok-bpfjobs.ensures ∙ is_plain)).1 in
    let found = pair_of (subcommand_rows_of c.in-Ok.matches) c.in-Some.name.now (rows_of (found_of c.in-Some.inner.now)) (c.in-Some.ensures.name ∙ named _ _ _) c.in-Some.ensures.rows in (
      c.in-Some.name.now,
      rows_of (found_of c.in-Some.inner.now),
      ap (λ a. subcommand_of a (map string_bytes c.args.words.now)) (sym c.in_ok-bpfjobs.ensures) ∙ sym entered ∙ found,
      c.in-Ok-command_of.ensures.ok,
      c.input_of.ensures,
      c.shown_of.ensures,
    )

pub returns-in-Some-clause-err : goal.returns-in-Some-clause-err
returns-in-Some-clause-err c =
    let words = map string_bytes c.args.words.now in
    let entered = (c.in-Ok.ensures.matches (ap is_simple c.in_ok-bpfjobs.ensures ∙ is_plain)).1 in
    let found = pair_of (subcommand_rows_of c.in-Ok.matches) c.in-Some.name.now (rows_of (found_of c.in-Some.inner.now)) (c.in-Some.ensures.name ∙ named _ _ _) c.in-Some.ensures.rows in
    let none = ap (λ a. fault_of a words) (sym c.in_ok-bpfjobs.ensures) ∙ c.in-Ok.ensures.kinds (ap is_simple_and_free c.in_ok-bpfjobs.ensures ∙ plain) in
    command_usage words c.in-Some.name.now (rows_of (found_of c.in-Some.inner.now)) c.in-Err-command_of.usage none
    (ap (λ a. subcommand_of a words) (sym c.in_ok-bpfjobs.ensures) ∙ sym entered ∙ found)
    c.in-Err-command_of.ensures.err

pub returns-in-Err-clause-err : goal.returns-in-Err-clause-err
returns-in-Err-clause-err c = (
  λ taken. c.in-Err.ensures.passes (ap (λ a. takes a (map string_bytes c.args.words.now)) c.in_ok-bpfjobs.ensures ∙ taken),
  of_kind (map string_bytes c.args.words.now) _ c.in-Err.error c.in_ok-bpfjobs.ensures (c.in-Err.ensures.kinds (ap is_simple_and_free c.in_ok-bpfjobs.ensures ∙ plain)),
)

pub returns-in-Ok-command_of-clause-range : goal.returns-in-Ok-command_of-clause-range
returns-in-Ok-command_of-clause-range c = command_range c.in-Some.name.now (rows_of (found_of c.in-Some.inner.now)) c.in-Ok-command_of.command c.in-Ok-command_of.ensures.ok
