use Rattle.std.proofs.Common.{◌≡◌, ◌∙◌, ap}
use Rattle.job_pools.proofs.TurnParts.{leads_take, traffic_taken}
use Rattle.job_pools.proofs.turn_ends.TurnState.take.Goals as goal

pub invariant_of-self-2 : goal.invariant_of-self-2
invariant_of-self-2 g c =
    let n = c.add.ensures in
    let job = g.T.OfJob.job in
    leads_take job c.self.inside.recorder c.add.new.recorder n.0 c.self.inside.queue c.take.new.self c.in_ok-flow.flow c.in_ok-flow.item
    c.self.invariant n.4 n.1 n.2 (n.3 ∙ ap job c.of-taken.ensures) c.in_ok-flow.ensures

pub returns : goal.returns
returns g c =
    let n = c.add.ensures in
    let job = g.T.OfJob.job in
    traffic_taken c.args.seat.now.1 c.add.new.seat.1 n.0 (job c.in_ok-flow.item) (ap (λ s. s.1) n.5) n.1 (n.3 ∙ ap job c.of-taken.ensures)
