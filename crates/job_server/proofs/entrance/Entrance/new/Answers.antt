use Rattle.std.proofs.Common.{sym, refl, arith}
use Rattle.job_server.specs.Listening.{nothing_yet}
use Rattle.job_server.proofs.entrance.Entrance.new.Goals as goal

pub invariant_of-result : goal.invariant_of-result
invariant_of-result g c = (
  omega arith,
  omega (arith, c.ranges.sessions.fits),
  sym c.requires.none,
  record { first = c.args.listener; begun = c.requires.listener; given = nothing_yet },
  c.requires.comes,
)
