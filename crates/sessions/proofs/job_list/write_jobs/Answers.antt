use Rattle.sessions.proofs.ListLemmas.{jobs_written}
use Rattle.sessions.proofs.job_list.write_jobs.Goals as goal

pub returns : goal.returns
returns c =
    jobs_written c.args.out.now.items _ _ _ _ c.args.count c.args.jobs.now c.args.keys.now c.in_ok-put_number.ensures c.in_ok-extend_from_slice.ensures.items c.in_ok-write_each.ensures
    c.in_ok-extend_from_slice-2.ensures.items
