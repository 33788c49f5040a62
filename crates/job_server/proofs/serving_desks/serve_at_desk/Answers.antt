use Rattle.std.proofs.Common.{◌∙◌}
use Rattle.job_server.proofs.DeskStarts.{begun_as, desk_begins}
use Rattle.job_server.proofs.serving_desks.serve_at_desk.Goals as goal

pub returns : goal.returns
returns g c =
    let served = c.serve_at_once-served in
    let kept = c.new-kept.ensures in
    begun_as _ _ _ _ _ _ _ _ _ (served.result.0, served.result.1) served.result.2
    (desk_begins c.new-desk.result c.new-handler.result c.new-kept.result c.args.runner c.args.plan.bounds.keep c.new-desk.ensures (c.new-handler.ensures ∙ c.new-logged.ensures) kept.0 kept.1)
    served.ensures
