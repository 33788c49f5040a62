use Rattle.std.proofs.Common.{◌∷◌, [], ◌∙◌, append_assoc, refl}
use Rattle.desk_recorder.specs.Restarts.{none_yet, one_more}
use Rattle.desk_recorder.proofs.restarting.restart_jobs.Goals as goal

pub jobs-init : goal.jobs-init
jobs-init g c = (λ desk. none_yet, c.requires, refl)

pub jobs-preserved : goal.jobs-preserved
jobs-preserved g c = (
  λ desk. one_more c.jobs.yielded desk c.jobs.runner c.in-Some.job c.start.result c.start.new.self desk (c.jobs.invariant.0 desk) c.start.ensures.starts (rw c.in_ok-start.was refl),
  c.start.ensures.ready,
  append_assoc c.jobs.yielded (c.in-Some.job ∷ []) _ ∙ rw (← c.in-Some.ensures.steps.0) c.jobs.invariant.2,
)
