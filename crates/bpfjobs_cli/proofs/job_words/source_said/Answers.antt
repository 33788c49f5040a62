use Rattle.std.proofs.Common.{◌≡◌, Some, arith, rules}
use Rattle.std.specs.Path.{rsplit_once}
use Rattle.bpfjobs_cli.proofs.LastColon.{cut_last}
use Rattle.bpfjobs_cli.proofs.JobWordLemmas.{source_some, source_uncut, source_wrong}
use Rattle.bpfjobs_cli.proofs.job_words.source_said.Goals as goal

pub returns-in-Some-number_said : goal.returns-in-Some-number_said
returns-in-Some-number_said c =
    let split = cut_last 58 c.args.word.now c.rsplit_once.result c.rsplit_once.ensures.cases (omega arith) in
    let cut : rsplit_once 58 c.args.word.now ≡ Some (c.in-Some.path.now, c.in-Some.digits.now) = search (rules, split) in
    source_some c.args.word.now c.in-Some.path.now c.in-Some.digits.now c.in-Some-number_said.need cut (search rules)

pub returns-in-None-number_said : goal.returns-in-None-number_said
returns-in-None-number_said c =
    let split = cut_last 58 c.args.word.now c.rsplit_once.result c.rsplit_once.ensures.cases (omega arith) in
    let cut : rsplit_once 58 c.args.word.now ≡ Some (c.in-Some.path.now, c.in-Some.digits.now) = search (rules, split) in
    source_wrong c.args.word.now c.in-Some.path.now c.in-Some.digits.now cut (search rules)

pub returns-in-None : goal.returns-in-None
returns-in-None c =
    let split = cut_last 58 c.args.word.now c.rsplit_once.result c.rsplit_once.ensures.cases (omega arith) in
    source_uncut c.args.word.now (search (rules, split))
