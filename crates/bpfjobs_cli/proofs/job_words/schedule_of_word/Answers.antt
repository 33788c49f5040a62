use Rattle.std.proofs.Common.{arith, rules}
use Rattle.bpfjobs_cli.specs.JobWords.{schedule_said}
use Rattle.bpfjobs_cli.specs.declared.tenant_text.Delimiter.TheVariants.{Comma}
use Rattle.bpfjobs_cli.proofs.JobWordLemmas.{part_last, part_next, part_wrong}
use Rattle.bpfjobs_cli.proofs.TenantLemmas.{shorter}
use Rattle.bpfjobs_cli.proofs.TurnLemmas.{is_none, is_some}
use Rattle.bpfjobs_cli.proofs.job_words.schedule_of_word.Goals as goal

pub returns-in_default-clause-err : goal.returns-in_default-clause-err
returns-in_default-clause-err c =
    part_wrong (schedule_said c.args.word.now) c.loop-number.numbers.items c.loop-number.rest.now c.cut_at.result.0.now c.cut_at.result.1.now c.loop-number.invariant
    c.cut_at.ensures.front c.cut_at.ensures.back (search rules)

pub returns-then-is_empty-clause-ok : goal.returns-then-is_empty-clause-ok
returns-then-is_empty-clause-ok c =
    part_last (schedule_said c.args.word.now) c.loop-number.numbers.items c.loop-number.rest.now c.cut_at.result.0.now c.cut_at.result.1.now c.loop-number.invariant
    c.cut_at.ensures.front c.cut_at.ensures.back c.in-Some.number (search rules) c.push_reserved.new.self.items (search rules) (is_none _ c.if-is_empty.ensures)

pub loop-number-smaller : goal.loop-number-smaller
loop-number-smaller c =
    let less = shorter Comma c.loop-number.rest.now c.cut_at.result.1.now c.split_at.result.1.now c.cut_at.ensures.back (is_some _ c.if-is_empty.ensures) c.split_at.ensures.back in
    omega (arith, less)

pub loop-number-preserved : goal.loop-number-preserved
loop-number-preserved c =
    part_next (schedule_said c.args.word.now) c.loop-number.numbers.items c.loop-number.rest.now c.cut_at.result.0.now c.cut_at.result.1.now c.loop-number.invariant
    c.cut_at.ensures.front c.cut_at.ensures.back c.in-Some.number (search rules) c.push_reserved.new.self.items (search rules)
    c.split_at.result.1.now (is_some _ c.if-is_empty.ensures) c.split_at.ensures.back
