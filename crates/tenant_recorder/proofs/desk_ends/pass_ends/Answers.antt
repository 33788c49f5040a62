use Rattle.tenant_desks.specs.Answering.{none_yet, one_more}
use Rattle.tenant_recorder.proofs.EachPlace.{noted_nothing, noted_then}
use Rattle.tenant_recorder.proofs.desk_ends.pass_ends.Goals as goal

pub jobs-init : goal.jobs-init
jobs-init g c = (none_yet, c.requires.ready, noted_nothing g.Q.RecordQueue.taken g.Q.RecordQueue.has_failed c.args.recorders.now.items c.args.desks.now.items)

pub jobs-preserved : goal.jobs-preserved
jobs-preserved g c = (
  one_more c.jobs.desks.items c.jobs.runner c.in-Some.number c.in-Some.outcome c.take.new.self c.note_end.new.desks.items c.jobs.invariant.0 c.in-Some.ensures.takes c.note_end.ensures.noted,
  c.in-Some.ensures.ready,
  noted_then g.Q.RecordQueue.taken g.Q.RecordQueue.has_failed c.args.recorders.now.items c.jobs.recorders.items c.note_end.new.recorders.items
      c.args.desks.now.items c.jobs.desks.items c.note_end.new.desks.items c.jobs.invariant.2 c.note_end.ensures.records,
)
