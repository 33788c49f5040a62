use Rattle.std.proofs.Common.{◌-◌, ◌≤◌, length, take}
use Rattle.endpoints.specs.Listening.{AreListening}
use Rattle.endpoints.proofs.listener.listen_at_each.Given as goal

-- the sockets so far are those of the first endpoints
abbrev pub invariant-endpoints : goal.invariant-endpoints
invariant-endpoints g l =
    (l.place ≤ length l.endpoints)
    × AreListening g.Y.Socket.Socket.listens_at g.Y.Socket.Socket.admits (take l.place l.endpoints) l.sockets.items

abbrev pub decreases-endpoints : goal.decreases-endpoints
decreases-endpoints g l = length l.endpoints - l.place
