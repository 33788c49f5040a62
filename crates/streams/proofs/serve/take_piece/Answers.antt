use Rattle.std.proofs.Common.{◌++◌, List, ℕ, sym, append-nil, subst}
use Rattle.sessions.specs.Session.{unread}
use Rattle.streams.specs.Serves.{none_yet}
use Rattle.streams.specs.Stops.{IsStarved, between}
use Rattle.streams.proofs.serve.take_piece.Goals as goal

pub returns-in-Err-clause-stopped : goal.returns-in-Err-clause-stopped
returns-in-Err-clause-stopped g c =
    let written = g.W.ReplySink.transcript c.args.writer.now in
    let P : List ℕ → Type 0 = λ out. IsStarved g.H.FrameHandler.answers (c.args.desk.now, c.args.handler.now) (unread c.args.session.now ++ c.args.piece.now) written (c.args.desk.now, c.args.handler.now) out in
    subst P (sym (append-nil written)) (between 0 _ _ _ none_yet)

pub returns-in-Ok-clause-served : goal.returns-in-Ok-clause-served
returns-in-Ok-clause-served g c = rw (← c.in-Ok.ensures.taken.1) c.answer_together.ensures.served

pub returns-in-Ok-clause-stopped : goal.returns-in-Ok-clause-stopped
returns-in-Ok-clause-stopped g c = rw (← c.in-Ok.ensures.taken.1) c.answer_together.ensures.stopped
