use Rattle.std.proofs.Common.{refl}
use Rattle.streams.specs.Passing.{none_yet, one_more}
use Rattle.desk_recorder.proofs.Composed.{records_nothing, records_then}
use Rattle.desk_recorder.proofs.recorded_ends.pass_recorded.Goals as goal

pub jobs-init : goal.jobs-init
jobs-init g c = (none_yet, c.requires, records_nothing g.Q.RecordQueue.taken g.Q.RecordQueue.has_failed c.args.recorder.now c.args.desk.now c.args.desk.now refl)

pub jobs-preserved : goal.jobs-preserved
jobs-preserved g c = (
  one_more c.jobs.desk c.jobs.runner c.in-Some.number c.in-Some.outcome c.take.new.self c.end_job.new.desk c.jobs.invariant.0 c.in-Some.ensures.takes c.end_job.ensures.noted,
  c.in-Some.ensures.ready,
  records_then g.Q.RecordQueue.taken g.Q.RecordQueue.has_failed c.args.recorder.now c.jobs.recorder c.end_job.new.recorder c.args.desk.now c.jobs.desk c.end_job.new.desk c.jobs.invariant.2 c.end_job.ensures.records,
)
