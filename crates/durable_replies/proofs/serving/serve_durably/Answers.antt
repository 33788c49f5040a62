use Rattle.std.proofs.Common.{refl}
use Rattle.durable_replies.proofs.LettingGo.{goes_at_first}
use Rattle.durable_replies.proofs.serving.serve_durably.Goals as goal

pub returns : goal.returns
returns g c =
    let first = c.args.writer.now in record {
      durable = c.serve_opened.ensures.let_go first (λ fresh none. (
        refl,
        refl,
        goes_at_first g.H.SharedHandler.answers g.J.Origin.begins g.H.Noted.covers g.K.NoteMaker.name g.K.NoteMaker.desk g.N.GroupNote.known g.N.GroupNote.sound first.sync first.journals.now first.notes.items fresh (g.W.Sink.transcript first.sink) c.requires.sink.1 none,
      ));
    }
