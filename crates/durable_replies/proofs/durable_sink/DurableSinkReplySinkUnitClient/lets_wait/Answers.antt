use Rattle.durable_replies.proofs.LettingGo.{replies_wait}
use Rattle.durable_replies.proofs.durable_sink.DurableSinkReplySinkUnitClient.lets_wait.Goals as goal

pub returns : goal.returns
returns g c first desk v waits payload reply desk' w ahead answer =
    let s = c.args.self.now in (
      ahead.0,
      ahead.1,
      replies_wait g.H.SharedHandler.answers g.J.Origin.begins g.H.Noted.covers g.K.NoteMaker.name g.K.NoteMaker.desk g.N.GroupNote.known g.N.GroupNote.sound first.sync first.journals.now s.notes.items (g.W.Sink.transcript s.sink) v w waits _ reply ahead.2 answer.4,
    )
