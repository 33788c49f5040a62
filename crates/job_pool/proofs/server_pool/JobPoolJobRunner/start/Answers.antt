use Rattle.std.proofs.Common.{◌≡◌, ◌∙◌, ◌+◌, refl, ap, inr, rules}
use Rattle.seat_log.specs.Seated.{SeatPart}
use Rattle.job_pool.specs.PooledJobs.{PooledJob}
use Rattle.job_pool.specs.PoolSteps.{job_put, over_steps}
use Rattle.job_pool.specs.SeatSteps.{with_step}
use Rattle.job_pool.specs.declared.pool_step.PoolStep.{PoolStep}
use Rattle.job_pool.specs.declared.pool_step.PoolStep.TheVariants.{Put, Started}
use Rattle.job_pool.proofs.Limits.{held_dropped, same_itself, ticketed_more, ticketed_still, within_held, within_same}
use Rattle.job_pool.proofs.PoolParts.{still_step, ticket_noted}
use Rattle.job_pool.proofs.server_pool.JobPoolJobRunner.start.Goals as goal

part_is : (a b : SeatPart PoolStep) → a ≡ b → a.part ≡ b.part
part_is a b same = ap (λ (s : SeatPart PoolStep). s.part) same

puts_same : (old new : SeatPart PoolStep) (job : PooledJob) → new ≡ with_step old (Started job) → over_steps job_put new.part ≡ over_steps job_put old.part
puts_same old new job is = ap (λ (s : SeatPart PoolStep). over_steps job_put s.part) is ∙ still_step job_put old.part (Started job) refl

pub new-end-requires : goal.new-end-requires
new-end-requires g c =
    let was = c.args.self.now in (
      c.note.ensures.note.0,
      ticket_noted was.port.part c.note.result.part c.of.result _ _ c.of.ensures refl was.ticketed
          (c.note.ensures.note.1 ∙ part_is _ _ c.enter.ensures),
    )

pub new-open_job-requires-clause-note : goal.new-open_job-requires-clause-note
new-open_job-requires-clause-note g c =
    let was = c.args.self.now in (
      c.note-2.ensures.note.0,
      ticket_noted was.port.part c.note-2.result.part c.of.result _ _ c.of.ensures refl was.ticketed
          (c.note-2.ensures.note.1 ∙ part_is _ _ (c.note.ensures.same ∙ c.enter.ensures)),
    )

pub returns-in_default-room_of-clause-starts : goal.returns-in_default-room_of-clause-starts
returns-in_default-room_of-clause-starts g c =
    let was = c.args.self.now in
    rw c.no_memory-in_default-room_of.ensures (
      (inr refl, same_itself was.table.desks.items),
      puts_same was.port c.note.new.self c.of.result (c.note.ensures.same ∙ c.enter.ensures),
      refl,
      refl,
    )

pub invariant_of-self-in_default-hold : goal.invariant_of-self-in_default-hold
invariant_of-self-in_default-hold g c =
    let was = c.args.self.now in
    let more : c.in-Some.tickets ≡ was.tickets + 1 = search rules in
    record {
      ticketed = ticketed_more was.port.part c.note-2.new.self.part c.of.result was.tickets c.in-Some.tickets was.ticketed more (part_is _ _ (c.note-2.ensures.same ∙ (c.note.ensures.same ∙ c.enter.ensures)));
      within = within_same was.limits was.table.desks.items c.hold.new.self.desks.items was.within (search rules);
    }

pub invariant_of-self-in-Ok-put : goal.invariant_of-self-in-Ok-put
invariant_of-self-in-Ok-put g c =
    let was = c.args.self.now in
    let more : c.in-Some.tickets ≡ was.tickets + 1 = search rules in
    let started = ticketed_more was.port.part c.note-2.new.self.part c.of.result was.tickets c.in-Some.tickets was.ticketed more (part_is _ _ (c.note-2.ensures.same ∙ (c.note.ensures.same ∙ c.enter.ensures))) in
    record {
      ticketed = ticketed_still c.note-2.new.self.part c.put.new.self.part (Put _) c.in-Some.tickets started refl (part_is _ _ c.in-Ok-put.ensures);
      within = within_held was.limits was.table.desks.items c.hold.new.self.desks.items was.within c.args.id c.new-open_job.result (c.may_start.ensures.yes (search rules)).0 c.in-Ok-hold.ensures.held;
    }

pub invariant_of-self-in-Err : goal.invariant_of-self-in-Err
invariant_of-self-in-Err g c =
    let was = c.args.self.now in
    let more : c.in-Some.tickets ≡ was.tickets + 1 = search rules in
    record {
      ticketed = ticketed_more was.port.part c.put.new.self.part c.of.result was.tickets c.in-Some.tickets was.ticketed more
          (part_is _ _ (c.in-Err.ensures.1 ∙ (c.note-2.ensures.same ∙ (c.note.ensures.same ∙ c.enter.ensures))));
      within = within_same was.limits was.table.desks.items c.release.new.self.desks.items was.within
          (held_dropped was.table.desks.items c.hold.new.self.desks.items c.release.new.self.desks.items c.args.id c.new-open_job.result c.release.result c.in-Ok-hold.ensures.held c.release.ensures);
    }

pub returns-in-Err-clause-starts : goal.returns-in-Err-clause-starts
returns-in-Err-clause-starts g c =
    let was = c.args.self.now in
    rw c.no_memory-in-Err.ensures (
      (
        inr refl,
        held_dropped was.table.desks.items c.hold.new.self.desks.items c.release.new.self.desks.items c.args.id c.new-open_job.result c.release.result c.in-Ok-hold.ensures.held c.release.ensures,
      ),
      puts_same was.port c.put.new.self c.of.result (c.in-Err.ensures.1 ∙ (c.note-2.ensures.same ∙ (c.note.ensures.same ∙ c.enter.ensures))),
      refl,
      refl,
    )
