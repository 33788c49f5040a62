use Rattle.std.proofs.Common.{◌≡◌, ℕ, length, None}
use Rattle.sessions.specs.Session.{unread, ended_by}
use Rattle.streams.specs.Hearing.{by_reading}
use Rattle.streams.specs.Serves.{Serves}
use Rattle.conversation.proofs.frames.answer_frames.Given as goal

abbrev pub invariant-frames : goal.invariant-frames
invariant-frames g l = record {
  served : (count : ℕ) × Serves (by_reading g.H.Handler.answers) (l.fn.desk, l.fn.handler) (unread l.fn.session) l.fn.due.items count (l.desk, l.handler) (unread l.session) l.due.items;
  well : ended_by l.session ≡ None;
  ready : g.H.Handler.ready l.handler;
}

abbrev pub decreases-frames : goal.decreases-frames
decreases-frames g l = length (unread l.session)
