use Rattle.tenant_desks.specs.Answering.{none_yet, one_more}
use Rattle.tenant_desks.proofs.ChangedDesks.{count_taken}
use Rattle.tenant_desks.proofs.ends.pass_ends.Goals as goal

pub jobs-init : goal.jobs-init
jobs-init g c = (none_yet, c.requires)

pub jobs-preserved : goal.jobs-preserved
jobs-preserved g c = (
  one_more c.jobs.desks.items c.jobs.runner c.in-Some.number c.in-Some.outcome c.take.new.self c.note_end.new.desks.items c.jobs.invariant.0 c.in-Some.ensures.takes
      c.note_end.ensures,
  c.in-Some.ensures.ready,
)

pub returns-in-None-clause-count : goal.returns-in-None-clause-count
returns-in-None-clause-count g c = count_taken g.N.Runner.takes c.args.desks.now.items c.args.runner.now c.jobs.desks.items c.jobs.runner c.jobs.invariant.0
