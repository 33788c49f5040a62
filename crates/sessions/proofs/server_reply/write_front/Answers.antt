use Rattle.sessions.proofs.ServerLemmas.{front_written}
use Rattle.sessions.proofs.server_reply.write_front.Goals as goal

pub returns : goal.returns
returns c =
    front_written c.args.out.now.items _ _ _ _ _ c.args.connections c.args.instance c.args.jobs c.in_ok-extend_from_slice.ensures.items c.in_ok-write_connections.ensures
    c.in_ok-put_number.ensures c.in_ok-extend_from_slice-2.ensures.items c.in_ok-write_jobs.ensures
