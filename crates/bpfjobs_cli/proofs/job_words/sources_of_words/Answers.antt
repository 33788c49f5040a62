use Rattle.std.proofs.Common.{◌∙◌, [], ap, rules, sym, take_all}
use Rattle.bpfjobs_cli.proofs.JobWordLemmas.{all_said, said_of_texts, word_refused}
use Rattle.bpfjobs_cli.proofs.job_words.sources_of_words.Goals as goal

pub returns-in-Err-clause-err : goal.returns-in-Err-clause-err
returns-in-Err-clause-err c =
    word_refused c.args.words.now c.loop-n.n (record { ref_ptr = (0, 0); now = [] }) (search rules) c.in-Err.usage c.in-Err.ensures.err

pub returns-clause-ok : goal.returns-clause-ok
returns-clause-ok c =
    said_of_texts c.args.words.now ∙ ap all_said (sym (take_all c.loop-n.n c.args.words.now c.loop-n-test.false)) ∙ c.loop-n.invariant.same
