use Rattle.std.proofs.Common.{refl, Err}
use Rattle.streams.proofs.Answered.{finished}
use Rattle.streams.proofs.forms.start_job.Goals as goal

pub returns-in-Ok-clause-started : goal.returns-in-Ok-clause-started
returns-in-Ok-clause-started g c = (c.in-Ok.ensures.starts, refl)

pub returns-in-Err-clause-started : goal.returns-in-Err-clause-started
returns-in-Err-clause-started g c = (
  c.in-Err.ensures.starts,
  finished c.finish.result c.args.desk.now c.finish.new.self c.args.number (Err c.in-Err.code) c.requires.open c.finish.ensures.finished c.finish.ensures.refused,
)
