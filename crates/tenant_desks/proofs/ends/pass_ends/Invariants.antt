use Rattle.tenant_desks.specs.Answering.{EndsTaken}
use Rattle.tenant_desks.proofs.ends.pass_ends.Given as goal

abbrev pub invariant-jobs : goal.invariant-jobs
invariant-jobs g l =
    EndsTaken g.N.Runner.takes l.fn.desks.items l.fn.runner l.desks.items l.runner × g.N.Runner.ready l.runner

abbrev pub decreases-jobs : goal.decreases-jobs
decreases-jobs g l = g.N.Runner.held l.runner
