use Rattle.std.proofs.Common.{[], ◌≡◌, ◌≤◌, length, List, ℕ, ◌++◌, ◌-◌, ◌^◌, min, false, None}
use Rattle.sessions.specs.Session.{unread, ended_by}
use Rattle.sessions.specs.Frames.{front, partial}
use Rattle.streams.specs.Serves.{Serves}
use Rattle.streams.proofs.serve.serve_stream.Given as goal

abbrev pub invariant-reads : goal.invariant-reads
invariant-reads g l = record {
  served : (all : List ℕ) × (count : ℕ) × (g.R.Source.transcript l.reader ≡ g.R.Source.transcript l.fn.reader ++ all)
      × Serves g.H.FrameHandler.answers (l.fn.desk, l.fn.handler) all (g.W.ReplySink.transcript l.fn.writer) count (l.desk, l.handler) (unread l.session) (g.W.ReplySink.transcript l.writer)
      × (l.number ≡ min count (2 ^ 64 - 1)) × (l.counter ≤ length all);
  left : front (unread l.session) ≡ partial;
  none : l.batch.items ≡ [];
  well : ended_by l.session ≡ None;
  source : g.R.Source.has_failed l.reader ≡ false;
  sink : g.W.ReplySink.has_failed l.writer ≡ false;
  ready : g.H.FrameHandler.ready l.handler;
  let_go : (first : g.row.W.Denot) → g.W.ReplySink.lets_go first (l.fn.writer, l.fn.handler) [] → g.W.ReplySink.lets_go first (l.writer, l.handler) [];
}
