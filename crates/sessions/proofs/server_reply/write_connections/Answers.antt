use Rattle.sessions.proofs.ServerLemmas.{connections_written}
use Rattle.sessions.proofs.server_reply.write_connections.Goals as goal

pub returns : goal.returns
returns c =
    connections_written c.args.out.now.items _ _ _ c.args.connections c.in_ok-put_number.ensures c.in_ok-put_number-2.ensures c.in_ok-extend_from_slice.ensures.items
