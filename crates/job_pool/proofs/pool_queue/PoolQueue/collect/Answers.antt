use Rattle.std.proofs.Common.{◌≡◌, List, sym, ap, subst, ◌∙◌}
use Rattle.job_pool.specs.PooledJobs.{PooledJob, IsJobEnd}
use Rattle.job_pool.specs.PoolSteps.{HasTicket, IsPoolHistory, noted_job}
use Rattle.job_pool.proofs.PoolParts.{keeps_collected, ticket_stays}
use Rattle.job_pool.proofs.pool_queue.PoolQueue.collect.Goals as goal

pub invariant_of-self : goal.invariant_of-self
invariant_of-self g c =
    let none = c.in_err-ended.ensures.cases in
    subst (λ (l : List PooledJob). IsPoolHistory c.self.inside.keeper c.self.inside.turns l) (none.0 ∙ sym none.1) c.self.invariant

pub invariant_of-self-2 : goal.invariant_of-self-2
invariant_of-self-2 g c =
    keeps_collected c.self.inside.keeper c.add.new.keeper _ c.self.inside.turns c.self.inside.over c.self.invariant c.in_ok-ended.ended c.pop_front.new.self
    c.add.ensures.keeper c.in_ok-ended.ensures.items

pub returns : goal.returns
returns g c =
    let e = c.ended.invariant in
    let job : PooledJob = c.in_ok-ended.ended in
    let noted : PooledJob = noted_job c.ended.inside.note.part c.ended.inside.ticket c.ended.inside.id in
    let is : noted ≡ job = c.ended.view_is in
    let numbered : c.ended.inside.note.number ≡ c.add.new.seat.number = e.1 ∙ sym (ap (λ s. s.number) c.add.ensures.seat ∙ c.requires) in
    record {
      job = job;
      ticketed = ap (λ (j : PooledJob). j.ticket) (sym is);
      named = ap (λ (j : PooledJob). j.id) (sym is);
      started = subst (λ (s : _). HasTicket s.part job) (sym c.read.ensures.same)
          (subst (λ (j : PooledJob). HasTicket c.add.new.seat.part j) is
          (ticket_stays c.ended.inside.note.part c.add.new.seat.part noted (c.read.ensures.begins numbered) e.2));
      end = subst (λ (j : PooledJob). IsJobEnd c.ended.inside.id j.job c.ended.inside.end) is e.0;
      is = c.read.ensures.same ∙ c.add.ensures.seat;
    }
