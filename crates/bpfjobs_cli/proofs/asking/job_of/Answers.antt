use Rattle.std.proofs.Common.{◌∙◌, ap, codes, is_some, option_map, sym, true≢false, refl}
use Rattle.std.specs.Borrow.{Bor}
use Rattle.clap.specs.Words.{Text, found_of}
use Rattle.bpfjobs_cli.proofs.AskLemmas.{job_read, no_job}
use Rattle.bpfjobs_cli.proofs.FlagLemmas.{first_is, first_some}
use Rattle.bpfjobs_cli.proofs.asking.job_of.Goals as goal

pub unreachable-requires : goal.unreachable-requires
unreachable-requires c =
    let first = first_is (λ s. s.now) (found_of c.args.matches.now) (codes "subject") c.get_str.result c.get_str.ensures in
    true≢false (sym c.requires ∙ ap is_some (first ∙ ap (option_map (λ (s : Bor Text). s.now)) c.in-None.is))

pub returns-in-Ok-clause-ok : goal.returns-in-Ok-clause-ok
returns-in-Ok-clause-ok c = (
  c.in-Some.text.now,
  first_some (λ s. s.now) (found_of c.args.matches.now) (codes "subject") c.get_str.result c.in-Some.text c.get_str.ensures c.in-Some.is,
  job_read c.in-Some.text.now c.parse.result c.in-Ok.job c.parse.ensures.value.0 c.in-Ok.is,
)

pub returns-in-Err-clause-err : goal.returns-in-Err-clause-err
returns-in-Err-clause-err c = (
  refl,
  (
    c.in-Some.text.now,
    first_some (λ s. s.now) (found_of c.args.matches.now) (codes "subject") c.get_str.result c.in-Some.text c.get_str.ensures c.in-Some.is,
    no_job c.in-Some.text.now c.parse.result c.in-Err.field-0 c.parse.ensures.value.0 c.in-Err.is,
  ),
)
