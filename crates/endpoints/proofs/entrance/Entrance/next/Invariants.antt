use Rattle.std.proofs.Common.{◌≡◌, ◌≤◌, is_some}
use Rattle.endpoints.proofs.entrance.Entrance.next.Given as goal

-- nothing was taken yet, at the same endpoints
abbrev pub invariant-taking : goal.invariant-taking
invariant-taking g l = record {
  endpoints : l.self-inside.listener.0 ≡ l.fn.self.0.0;
  sessions : l.self-inside.sessions ≡ l.fn.self.1.0;
  taken : l.self-inside.taken ≡ l.fn.self.1.1;
  few : l.self-inside.taken ≤ l.self-inside.sessions;
  flag : l.watch.0 ≡ is_some l.stop;
}
