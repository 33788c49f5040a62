use Rattle.std.proofs.Common.{◌≡◌, ◌<◌, ◌+◌, length}
use Rattle.job_server.proofs.socket_listener.SocketListener.ask_all.Given as goal

-- the place is one of the sockets', and nothing has changed
abbrev pub invariant-asking : goal.invariant-asking
invariant-asking g l =
    (l.place < l.places) × (l.places ≡ length l.fn.self.tenants.items + 2) × (l.self ≡ l.fn.self)
