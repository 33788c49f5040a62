use Rattle.std.proofs.Common.{◌≡◌}
use Rattle.endpoints.proofs.listener.Listener.accept.Given as goal

-- nothing has come yet, so that the turn is the same
abbrev pub invariant-waiting : goal.invariant-waiting
invariant-waiting g l = l.self ≡ l.fn.self
