use Rattle.durable_replies.proofs.LettingGo.{goes_before}
use Rattle.durable_replies.proofs.durable_sink.DurableSinkReplySinkUnitClient.write_last.Goals as goal

pub returns-clause-let_go : goal.returns-clause-let_go
returns-clause-let_go g c first v waits ahead =
    let s = c.args.self.now in
    goes_before g.H.SharedHandler.answers g.J.Origin.begins g.H.Noted.covers g.K.NoteMaker.name g.K.NoteMaker.desk g.N.GroupNote.known g.N.GroupNote.sound first.sync first.journals.now c.write_all.result s.notes.items v (g.W.Sink.transcript s.sink) waits c.args.bytes.now
    (g.W.Sink.transcript c.write_all.new.sink) c.write_all.ensures.ok c.write_all.ensures.err ahead.2
