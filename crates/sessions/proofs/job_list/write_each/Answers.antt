use Rattle.std.proofs.Common.{◌++◌, false, ap, ◌∙◌}
use Rattle.std.proofs.lemmas.List.{take_all, take_more}
use Rattle.sessions.specs.ListTexts.{listed_texts}
use Rattle.sessions.proofs.ListLemmas.{behind_more, listed_keyed, listed_more}
use Rattle.sessions.proofs.job_list.write_each.Goals as goal

pub loop-job-preserved : goal.loop-job-preserved
loop-job-preserved c =
    let more = take_more c.args.jobs.now c.loop-job.job-index _ c.loop-job-test.true in
    let one = listed_keyed c.args.keys.now _ _ _ _ c.key_among-key.ensures c.in_ok-write_listed.ensures in
    record {
      written = listed_more c.args.keys.now c.args.out.now.items _ _ _ _ _ _ _ more c.loop-job.invariant.written c.loop-job.invariant.later c.in_ok-put_comma.ensures one;
      later = behind_more _ _ _ more;
    }

pub returns : goal.returns
returns c = c.loop-job.invariant.written ∙ ap (λ ts. c.args.out.now.items ++ listed_texts c.args.keys.now false ts) (take_all c.loop-job.job-index c.args.jobs.now c.loop-job-test.false)
