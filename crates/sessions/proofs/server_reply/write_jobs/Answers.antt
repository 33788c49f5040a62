use Rattle.sessions.proofs.ServerLemmas.{jobs_written}
use Rattle.sessions.proofs.server_reply.write_jobs.Goals as goal

pub returns : goal.returns
returns c =
    jobs_written c.args.out.now.items _ _ _ _ _ _ c.args.jobs c.in_ok-put_number.ensures c.in_ok-put_number-2.ensures c.in_ok-put_number-3.ensures c.in_ok-put_number-4.ensures
    c.in_ok-put_number-5.ensures c.in_ok-extend_from_slice.ensures.items
