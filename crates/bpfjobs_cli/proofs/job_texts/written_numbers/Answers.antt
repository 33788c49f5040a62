use Rattle.std.proofs.Common.{◌≡◌, ◌∙◌, Some, ap, get_or, rules, take, take_all}
use Rattle.sessions.specs.Grammar.{number_between}
use Rattle.sessions.specs.Replies.{whole}
use Rattle.bpfjobs_cli.proofs.JobTextLemmas.{same_map, same_more, value_more}
use Rattle.bpfjobs_cli.proofs.job_texts.written_numbers.Goals as goal

pub loop-number-preserved : goal.loop-number-preserved
loop-number-preserved c = record {
  same = same_more whole c.loop-number.values.items c.push.new.self.items c.in_ok-written_number.field-0 c.args.numbers.now c.loop-number.number-index
      (get_or c.args.numbers.now c.loop-number.number-index 0) c.loop-number-test.true (search rules) (search rules) c.loop-number.invariant.same c.in_ok-written_number.ensures.value;
  back = value_more (number_between 0 4294967295) (λ n. n) c.loop-number.values.items c.push.new.self.items c.in_ok-written_number.field-0 c.args.numbers.now c.loop-number.number-index
      (get_or c.args.numbers.now c.loop-number.number-index 0) c.loop-number-test.true (search rules) (search rules) c.loop-number.invariant.back c.in_ok-written_number.ensures.back;
}

pub returns-clause-back : goal.returns-clause-back
returns-clause-back c =
    let all : take c.loop-number.number-index c.args.numbers.now ≡ c.args.numbers.now = take_all c.loop-number.number-index c.args.numbers.now c.loop-number-test.false in
    c.loop-number.invariant.back ∙ ap Some (same_map (take c.loop-number.number-index c.args.numbers.now) ∙ all)
