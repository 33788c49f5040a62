use Rattle.std.proofs.Common.{[], rules}
use Rattle.bpfjobs_cli.specs.TenantLines.{said_by}
use Rattle.bpfjobs_cli.specs.Tenants.{tenants_in}
use Rattle.bpfjobs_cli.proofs.TurnLemmas.{word_more, word_wrong, words_done}
use Rattle.bpfjobs_cli.proofs.tenants.tenants_of_words.Goals as goal

pub returns-in-Err-clause-err : goal.returns-in-Err-clause-err
returns-in-Err-clause-err c =
    word_wrong (tenants_in c.loop-n.tenants.items) c.loop-n.n c.args.words.now (record { ref_ptr = (0, 0); now = [] }) (said_by c.said_by_word.result) (search rules)
    c.loop-n.invariant.same (search rules) c.in-Err.fault c.word_usage.result c.in-Err.ensures.err c.word_usage.ensures

pub loop-n-preserved : goal.loop-n-preserved
loop-n-preserved c = record {
  within = search rules;
  same = word_more (tenants_in c.loop-n.tenants.items) c.loop-n.n c.args.words.now (record { ref_ptr = (0, 0); now = [] }) (said_by c.said_by_word.result) (search rules)
      c.loop-n.invariant.same (search rules) (tenants_in c.in-Ok.tenants.items) c.in-Ok.ensures.ok;
}

pub returns-clause-ok : goal.returns-clause-ok
returns-clause-ok c =
    words_done (tenants_in c.loop-n.tenants.items) c.loop-n.n c.args.words.now c.loop-n.invariant.same c.loop-n-test.false
