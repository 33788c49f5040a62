use Rattle.std.proofs.Common.{refl}
use Rattle.tenant_recorder.proofs.Restarted.{placed_ok, placed_refused}
use Rattle.tenant_recorder.proofs.desk_restarts.restart_at.Goals as goal

pub returns-clause-starts : goal.returns-clause-starts
returns-clause-starts g c = placed_ok g.N.Runner.starts c.args.place c.args.runner.now.runner c.args.jobs.items c.restart_jobs.result c.restart_jobs.new.runner c.restart_jobs.ensures.starts

pub returns-clause-refused : goal.returns-clause-refused
returns-clause-refused g c = placed_refused g.N.Runner.starts c.args.place c.args.runner.now.runner c.args.jobs.items c.restart_jobs.result c.restart_jobs.new.runner c.restart_jobs.ensures.refused
