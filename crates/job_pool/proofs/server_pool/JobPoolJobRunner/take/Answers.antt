use Rattle.std.proofs.Common.{◌≡◌, ◌∙◌, refl, sym, ap, subst}
use Rattle.seat_log.specs.Seated.{SeatPart}
use Rattle.server_state.specs.declared.job_id.JobId.{JobId}
use Rattle.job_pool.specs.Holdings.{SeenJob, held_job_at}
use Rattle.job_pool.specs.PooledJobs.{PooledJob, IsJobEnd}
use Rattle.job_pool.specs.PoolSteps.{HasTicket, job_collected, over_steps}
use Rattle.job_pool.specs.declared.pool_step.PoolStep.{PoolStep}
use Rattle.job_pool.specs.declared.pool_step.PoolStep.TheVariants.{Collected}
use Rattle.job_pool.proofs.Limits.{ticket_found, ticketed_still, within_dropped}
use Rattle.job_pool.proofs.PoolParts.{one_step, one_ticket, ticket_stays}
use Rattle.job_pool.proofs.server_pool.JobPoolJobRunner.take.Goals as goal

pub invariant_of-self-2 : goal.invariant_of-self-2
invariant_of-self-2 g c =
    let was = c.args.self.now in
    let told = c.in_ok-ticket.ensures in
    record {
      ticketed = ticketed_still was.port.part c.read.new.self.part (Collected told.job) was.tickets was.ticketed refl
          (ap (λ (s : SeatPart PoolStep). s.part) (c.read.ensures.same ∙ told.is));
      within = within_dropped was.limits was.table.desks.items c.release-given.new.self.desks.items was.within c.in_ok-ticket.id c.release-given.result c.release-given.ensures;
    }

pub returns-clause-takes : goal.returns-clause-takes
returns-clause-takes g c =
    let was = c.args.self.now in
    let told = c.in_ok-ticket.ensures in
    let given : SeenJob = c.release-given.result in
    let drops = c.release-given.ensures in
    let number : given.job.ticket ≡ told.job.ticket =
    sym (ticket_found (held_job_at was.table.desks.items c.in_ok-ticket.id) given c.in-Some.held drops.was (sym c.in-Some.is ∙ c.ticket_of.ensures)) ∙ (c.if-held-ticket.false ∙ sym told.ticketed) in
    let mine : HasTicket c.collect.new.self.part given.job = ticket_stays c.into_note.result.part c.collect.new.self.part given.job c.read.ensures.begins c.into_note.ensures.1 in
    let same : given.job ≡ told.job = one_ticket c.collect.new.self.part given.job told.job mine told.started number in (
      (given, subst (λ (j : PooledJob). IsJobEnd c.in_ok-ticket.id j.job c.in_ok-ticket.end) (sym same) told.end, drops),
      (
        told.job,
        told.named,
        (given, ap (λ (id : JobId). held_job_at was.table.desks.items id) told.named ∙ drops.was, number),
        ap (λ (s : SeatPart PoolStep). over_steps job_collected s.part) (c.read.ensures.same ∙ told.is) ∙ one_step job_collected was.port.part (Collected told.job),
      ),
      refl,
      refl,
    )
