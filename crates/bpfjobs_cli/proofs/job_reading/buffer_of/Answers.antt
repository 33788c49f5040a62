use Rattle.std.proofs.Common.{◌≡◌, ◌∙◌, Option, Some, ap, codes, is_some, option_map, subst, sym, true≢false}
use Rattle.std.specs.Prelude.{IfErr, IfOk, option_and_then}
use Rattle.std.specs.Borrow.{Bor}
use Rattle.clap.specs.Words.{Text, found_of}
use Rattle.bpfjobs_cli.specs.JobUsages.{IsBufferUsage}
use Rattle.bpfjobs_cli.specs.JobWords.{buffer_said}
use Rattle.bpfjobs_cli.proofs.FlagLemmas.{first_is, first_some}
use Rattle.bpfjobs_cli.proofs.job_reading.buffer_of.Goals as goal

pub unreachable-requires : goal.unreachable-requires
unreachable-requires c =
    let first = first_is (λ s. s.now) (found_of c.args.matches.now) (codes "buffer") c.get_str.result c.get_str.ensures in
    true≢false (sym c.requires ∙ ap is_some (first ∙ ap (option_map (λ (s : Bor Text). s.now)) c.in-None.is))

pub returns-clause-ok : goal.returns-clause-ok
returns-clause-ok c =
    let there = first_some (λ s. s.now) (found_of c.args.matches.now) (codes "buffer") c.get_str.result c.in-Some.word c.get_str.ensures c.in-Some.is in
    subst (λ (o : Option Text). IfOk c.buffer_of_word.result (λ bytes. option_and_then buffer_said o ≡ Some bytes.items)) (sym there) c.buffer_of_word.ensures.ok

pub returns-clause-err : goal.returns-clause-err
returns-clause-err c =
    let there = first_some (λ s. s.now) (found_of c.args.matches.now) (codes "buffer") c.get_str.result c.in-Some.word c.get_str.ensures c.in-Some.is in
    subst (λ (o : Option Text). IfErr c.buffer_of_word.result (λ usage. IsBufferUsage o usage)) (sym there) c.buffer_of_word.ensures.err
