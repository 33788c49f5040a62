use Rattle.streams.specs.Passing.{Taken}
use Rattle.streams.proofs.finished.pass_finished.Given as goal

abbrev pub invariant-jobs : goal.invariant-jobs
invariant-jobs g l = Taken g.N.Runner.takes l.fn.desk l.fn.runner l.desk l.runner × g.N.Runner.ready l.runner

abbrev pub decreases-jobs : goal.decreases-jobs
decreases-jobs g l = g.N.Runner.held l.runner
