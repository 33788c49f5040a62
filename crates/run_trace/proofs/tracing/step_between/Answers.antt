use Rattle.run_trace.proofs.Placing.{never_between}
use Rattle.run_trace.proofs.tracing.step_between.Goals as goal

pub unreachable-requires : goal.unreachable-requires
unreachable-requires c =
    never_between c.args.listing.now.placed.now c.args.before.now.slot c.requires.begins.0 c.requires.turn c.requires.begins.1
    (rw c.in_default.is at c.in_ok-found.ensures)
