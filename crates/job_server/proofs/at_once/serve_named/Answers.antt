use Rattle.std.proofs.Common.{ap, ◌∙◌, sym, subst, arith}
use Rattle.job_server.specs.Listening.{AreOfFirst}
use Rattle.shared_desk.specs.Histories.{part_of}
use Rattle.job_server.proofs.AtOnceAlike.{fault_of_all, well_of}
use Rattle.job_server.proofs.at_once.serve_named.Goals as goal

pub returns : goal.returns
returns g c =
    let now = c.count.new.self in
    let is = c.count.ensures.same.0 in
    let opened = c.into_parts-opened.result.0 in
    let counted = c.into_parts-opened.ensures.opened.1 in
    let over = c.over-over.result in
    let over_is = c.over-over.ensures in
    let few = c.into_parts-opened.ensures.small in
    let given_up = c.outcome.result in
    let outcome = c.outcome_of-outcome.result in (
      record {
        history = now.1;
        opened = opened;
        closed = now.2;
        legal = c.into_parts-desk.ensures.legal;
        others = λ n le. ap (λ s. part_of n s.1) is ∙ c.count.ensures.others n (omega (arith, counted, le));
        parts = rw (is, counted) c.count.ensures.over;
        served = c.is_legal.ensures.served;
        well = well_of now.2 opened c.args.plan.sessions over _ c.ended_by-stopped.result given_up outcome over_is few c.outcome.ensures c.ended_by-stopped.ensures c.outcome_of-outcome.ensures.well;
        fault = fault_of_all now.2 opened c.args.plan.sessions over given_up outcome over_is few c.outcome.ensures c.outcome_of-outcome.ensures.fault;
      },
      subst (AreOfFirst g.L.Listener.opens g.L.Listener.fails g.J.FirstListener.is_first) (sym c.into_parts-opened.ensures.opened.0) c.into_parts-opened.ensures.given,
      c.is_legal.ensures.came,
    )
