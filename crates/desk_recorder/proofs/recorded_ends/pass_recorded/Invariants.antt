use Rattle.std.proofs.Common.{[]}
use Rattle.streams.specs.Passing.{Taken}
use Rattle.desk_recorder.specs.Recording.{IsRecorded}
use Rattle.desk_recorder.proofs.recorded_ends.pass_recorded.Given as goal

abbrev pub invariant-jobs : goal.invariant-jobs
invariant-jobs g l = Taken g.N.Runner.takes l.fn.desk l.fn.runner l.desk l.runner × g.N.Runner.ready l.runner
    × IsRecorded g.Q.RecordQueue.taken g.Q.RecordQueue.has_failed l.fn.recorder l.recorder l.fn.desk l.desk []

abbrev pub decreases-jobs : goal.decreases-jobs
decreases-jobs g l = g.N.Runner.held l.runner
