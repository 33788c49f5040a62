use Rattle.std.proofs.Common.{◌≡◌, ◌∙◌, ◌%◌, ap}
use Rattle.job_pools.proofs.TurnParts.{leads_put, traffic_put}
use Rattle.job_pools.proofs.turn_ends.TurnState.put.Goals as goal

pub invariant_of-self : goal.invariant_of-self
invariant_of-self g c =
    let n = c.add.ensures in
    let job = g.T.OfJob.job in
    leads_put job c.self.inside.recorder c.add.new.recorder n.0 c.self.inside.queue c.put.new.self _ c.args.item
    c.self.invariant n.4 n.1 (n.3 ∙ ap job c.of-put.ensures) (ap (λ m. m % 1000) c.number-line.ensures) c.in-Ok.ensures.0

pub returns-in-Ok : goal.returns-in-Ok
returns-in-Ok g c =
    let n = c.add.ensures in
    let job = g.T.OfJob.job in
    traffic_put c.args.seat.now.1 c.add.new.seat.1 n.0 (job c.args.item) (ap (λ s. s.1) n.5) n.1 (n.3 ∙ ap job c.of-put.ensures)
