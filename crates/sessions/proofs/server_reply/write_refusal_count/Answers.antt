use Rattle.sessions.proofs.ServerLemmas.{count_written}
use Rattle.sessions.proofs.server_reply.write_refusal_count.Goals as goal

pub returns : goal.returns
returns c =
    count_written c.args.out.now.items _ _ _ c.args.refusal c.in_ok-put_number.ensures c.in_ok-put_number-2.ensures c.in_ok-extend_from_slice.ensures.items
