use Rattle.std.proofs.lemmas.Result.{IfOk-weaker}
use Rattle.sessions.specs.Replies.{frame_of}
use Rattle.server_log.proofs.counting_handler.totals_reply.Goals as goal

pub returns : goal.returns
unfolding frame_of
returns g c =
    let totals = c.in_ok-totals.totals in
    IfOk-weaker c.of_reply.result _ _
    (λ bytes is. (totals.connections, totals.instance, totals.jobs, totals.lines_lost, totals.refusals.items, totals.seconds, is)) c.of_reply.ensures
