use Rattle.std.proofs.Common.{◌≡◌, ◌∙◌, Option, Some, ap, codes, option_map, subst, sym}
use Rattle.std.specs.Prelude.{IfErr, IfOk}
use Rattle.std.specs.Borrow.{Bor}
use Rattle.clap.specs.Words.{Text, found_of}
use Rattle.bpfjobs_cli.specs.JobUsages.{IsScheduleUsage}
use Rattle.bpfjobs_cli.specs.JobWords.{schedule_by}
use Rattle.bpfjobs_cli.proofs.FlagLemmas.{first_is, first_some}
use Rattle.bpfjobs_cli.proofs.job_reading.schedule_of.Goals as goal

pub returns-in-Some-clause-ok : goal.returns-in-Some-clause-ok
returns-in-Some-clause-ok c =
    let there = first_some (λ s. s.now) (found_of c.args.matches.now) (codes "schedule") c.get_str.result c.in-Some.word c.get_str.ensures c.in-Some.is in
    subst (λ (o : Option Text). IfOk c.schedule_of_word.result (λ numbers. schedule_by o ≡ Some numbers.items)) (sym there) c.schedule_of_word.ensures.ok

pub returns-in-Some-clause-err : goal.returns-in-Some-clause-err
returns-in-Some-clause-err c =
    let there = first_some (λ s. s.now) (found_of c.args.matches.now) (codes "schedule") c.get_str.result c.in-Some.word c.get_str.ensures c.in-Some.is in
    subst (λ (o : Option Text). IfErr c.schedule_of_word.result (λ usage. IsScheduleUsage o usage)) (sym there) c.schedule_of_word.ensures.err

pub returns-in-None-clause-ok : goal.returns-in-None-clause-ok
returns-in-None-clause-ok c =
    let first = first_is (λ s. s.now) (found_of c.args.matches.now) (codes "schedule") c.get_str.result c.get_str.ensures in
    ap schedule_by (first ∙ ap (option_map (λ (s : Bor Text). s.now)) c.in-None.is) ∙ sym (ap Some c.new.ensures.items)
