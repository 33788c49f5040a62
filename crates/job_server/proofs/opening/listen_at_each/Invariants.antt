use Rattle.std.proofs.Common.{◌≡◌, is_some}
use Rattle.job_server.proofs.opening.listen_at_each.Given as goal

-- the sockets of the first doors have come, and there is one for grants where there is a path for it
abbrev pub invariant-loop-door : goal.invariant-loop-door
invariant-loop-door g l =
    (l.listener.tenants.len ≡ l.door-index) × (is_some l.listener.grants ≡ is_some l.fn.grants)
