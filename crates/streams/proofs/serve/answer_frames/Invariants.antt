use Rattle.std.proofs.Common.{[], ◌≡◌, ◌+◌, ◌-◌, ◌^◌, ◌++◌, ℕ, length, min, false, None}
use Rattle.sessions.specs.Session.{unread, ended_by}
use Rattle.streams.specs.Serves.{Serves}
use Rattle.streams.specs.Stops.{IsGrown}
use Rattle.streams.proofs.serve.answer_frames.Given as goal

abbrev pub invariant-frames : goal.invariant-frames
invariant-frames g l = record {
  served : (count : ℕ) × Serves g.H.FrameHandler.answers (l.fn.desk, l.fn.handler) (unread l.fn.session) (g.W.ReplySink.transcript l.fn.writer) count (l.desk, l.handler) (unread l.session) (g.W.ReplySink.transcript l.writer ++ l.batch.items)
      × (l.number ≡ min (l.fn.number + count) (2 ^ 64 - 1));
  grows : IsGrown (g.W.ReplySink.transcript l.fn.writer) (g.W.ReplySink.transcript l.writer);
  well : ended_by l.session ≡ None;
  sink : g.W.ReplySink.has_failed l.writer ≡ false;
  ready : g.H.FrameHandler.ready l.handler;
  let_go : (first : g.row.W.Denot) → g.W.ReplySink.lets_go first (l.fn.writer, l.fn.handler) [] → g.W.ReplySink.lets_go first (l.writer, l.handler) l.batch.items;
}

abbrev pub decreases-frames : goal.decreases-frames
decreases-frames g l = length (unread l.session)
