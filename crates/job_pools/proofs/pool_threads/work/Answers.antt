use Rattle.std.proofs.Common.{◌≡◌, ◌∙◌, List, [], ◌∷◌, ◌++◌, ap, inr, refl}
use Rattle.job_pools.specs.declared.job_seats.StartedJob.{StartedJob}
use Rattle.job_pools.specs.declared.queues.Traffic.{Traffic}
use Rattle.job_pools.proofs.pool_threads.work.Goals as goal

behind : (a b : List StartedJob) (s : StartedJob) → (a ++ b) ++ s ∷ [] ≡ a ++ (b ++ s ∷ [])
behind [] b s = refl
behind (x ∷ xs) b s = ap (λ l. x ∷ l) (behind xs b s)

pub loop-preserved : goal.loop-preserved
loop-preserved g c =
    let inv = c.loop.invariant in
    let seat : StartedJob = c.in-Some-take.job.seat in (
      tt,
      tt,
      inv.2 ++ seat ∷ [],
      ap (λ (t : Traffic). t.taken) c.in-Some-take.ensures ∙ ap (λ l. l ++ seat ∷ []) inv.3 ∙ behind c.args.jobs.now.taken inv.2 seat,
      ap (λ (t : Traffic). t.put) c.in-Ok.ensures ∙ ap (λ s. c.loop.endings.put ++ s ∷ []) c.run_told.ensures ∙ ap (λ l. l ++ seat ∷ []) inv.4
          ∙ behind c.args.endings.now.put inv.2 seat,
    )

pub returns-in_default-put : goal.returns-in_default-put
returns-in_default-put g c =
    let inv = c.loop.invariant in
    let seat : StartedJob = c.in-Some-take.job.seat in
    record {
      took = inv.2 ++ seat ∷ [];
      gave = inv.2;
      taken = ap (λ (t : Traffic). t.taken) c.in-Some-take.ensures ∙ ap (λ l. l ++ seat ∷ []) inv.3 ∙ behind c.args.jobs.now.taken inv.2 seat;
      given = ap (λ (t : Traffic). t.put) c.in_default-put.ensures.1 ∙ inv.4;
      each = inr (seat, refl);
    }
