use Rattle.std.proofs.Common.{ap, ◌∙◌, inl, inr, refl}
use Rattle.job_server.specs.Recorded.{queue_taken, queue_told, recovered_state}
use Rattle.job_server.specs.TenantRecorded.{desks_of}
use Rattle.job_server.proofs.DeskStarts.{begun_as}
use Rattle.job_server.proofs.Restarting.{restarted_as}
use Rattle.job_server.proofs.serving_recorded.serve_recorded.Goals as goal

pub returns-in-Err : goal.returns-in-Err
returns-in-Err g c = inr (inr (inr (_, refl)))

pub returns : goal.returns
returns g c =
    let served = c.serve_at_once-served in
    let parts = c.parts_of-desk in
    let made = c.new-recording in
    let desk = parts.result.0 in
    let handler = c.restart.new.self in
    let t = begun_as _ _ _ _ _ _ _ (desk, c.new-handler.result) (desk, handler) (served.result.0, served.result.1) served.result.2 (ap (λ h. (desk, h)) (c.new-handler.ensures ∙ c.new-logged.ensures)) served.ensures in
    inl (
      (desk, handler),
      t.0,
      restarted_as g.N.Runner.starts (queue_taken {R = g.row.R.Denot}) (queue_told {R = g.row.R.Denot}) (recovered_state (desks_of c.args.states.items)) c.args.runner c.args.plan.bounds.keep desk parts.result.1.items made.result c.new-queue.result handler
          parts.ensures.0 parts.ensures.1 made.ensures.0 made.ensures.1 made.ensures.2 made.ensures.3 c.new-queue.ensures.none.0 c.in-Ok.ensures.starts c.restart.ensures.same.1 c.restart.ensures.same.0,
      t.1,
      t.2,
      t.3,
    )
