use Rattle.tenant_desks.specs.Answering.{EndsTaken}
use Rattle.tenant_recorder.specs.Recorders.{EachRecorder, IsRecordedPlainly}
use Rattle.tenant_recorder.proofs.desk_ends.pass_ends.Given as goal

abbrev pub invariant-jobs : goal.invariant-jobs
invariant-jobs g l = EndsTaken g.N.Runner.takes l.fn.desks.items l.fn.runner l.desks.items l.runner × g.N.Runner.ready l.runner
    × EachRecorder (IsRecordedPlainly g.Q.RecordQueue.taken g.Q.RecordQueue.has_failed) l.fn.recorders.items l.recorders.items l.fn.desks.items l.desks.items

abbrev pub decreases-jobs : goal.decreases-jobs
decreases-jobs g l = g.N.Runner.held l.runner
