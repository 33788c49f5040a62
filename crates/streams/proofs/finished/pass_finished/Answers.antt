use Rattle.streams.specs.Passing.{none_yet, one_more}
use Rattle.streams.proofs.Passed.{noted}
use Rattle.streams.proofs.finished.pass_finished.Goals as goal

pub jobs-init : goal.jobs-init
jobs-init g c = (none_yet, c.requires)

pub jobs-preserved : goal.jobs-preserved
jobs-preserved g c = (
  one_more c.jobs.desk c.jobs.runner c.in-Some.number c.in-Some.outcome c.take.new.self c.finish.new.self c.jobs.invariant.0 c.in-Some.ensures.takes
      (noted c.finish.result c.jobs.desk c.in-Some.number c.in-Some.outcome c.finish.new.self c.finish.ensures.finished c.finish.ensures.refused c.finish.ensures.unchanged),
  c.in-Some.ensures.ready,
)
