use Rattle.std.proofs.Common.{subst}
use Rattle.shared_desk.specs.Histories.{Replays}
use Rattle.shared_desk.specs.ClientViews.{ClientView}
use Rattle.shared_desk.proofs.WholeStream.{served_client}
use Rattle.shared_desk.proofs.client.serve_client.Goals as goal

pub returns-clause-served : goal.returns-clause-served
returns-clause-served g c =
    served_client g.G.PassageId.passage g.H.SharedHandler.answers g.J.Origin.begins g.S.Source.transcript g.S.Source.is_over g.S.Source.has_failed g.W.ReplySink.transcript g.W.ReplySink.has_failed
    ((c.args.reader.now, c.args.writer.now), c.args.client.now)
    ((c.serve_stream-served.new.reader, c.serve_stream-served.new.writer), c.serve_stream-served.new.handler)
    _
    c.serve_stream-served.ensures.served
    c.serve_stream-served.ensures.stopped
    c.serve_stream-served.ensures.well
    c.serve_stream-served.ensures.read_failed
    c.serve_stream-served.ensures.write_failed
    c.serve_stream-served.ensures.no_memory

pub returns-clause-legal : goal.returns-clause-legal
returns-clause-legal g c =
    let known = c.client.invariant.0 in
    (known.0, subst (λ (k : ClientView). Replays g.H.SharedHandler.answers g.J.Origin.begins k.seen known.0) c.client.view_is known.1)
