-- Changes of a table keep its limits, and what a start and a take do to the port.
use Rattle.std.proofs.Common.{◌≡◌, ◌≢◌, ◌<◌, ◌≤◌, ◌+◌, ℕ, List, [], ◌∷◌, ◌++◌, Option, Some, option_map, length, refl, sym, ap, subst, ◌∙◌, ◌⊎◌, inl, inr, arith, length-append}
use Rattle.std.proofs.lemmas.Bool.{cases_eq}
use Rattle.std.specs.BTreeMap.{BTreeMap}
use Rattle.server_state.specs.declared.job_id.JobId.{JobId}
use Rattle.job_pool.specs.Holdings.{DropsJob, HasRoom, HoldsJob, IsSameTable, KeepsLimits, PoolLimits, SeenJob, held_job_at, limit_at, open_at}
use Rattle.job_pool.specs.PooledJobs.{PooledJob}
use Rattle.job_pool.specs.PoolSteps.{job_started, over_steps}
use Rattle.job_pool.specs.declared.pool_step.PoolStep.{PoolStep}
use Rattle.job_pool.specs.declared.pool_step.PoolStep.TheVariants.{Started}
use Rattle.job_pool.proofs.PoolParts.{one_step, still_step}

module _ (limits : PoolLimits) (old new : List (BTreeMap ℕ SeenJob)) (within : KeepsLimits limits old) where
  pub within_same : IsSameTable old new → KeepsLimits limits new
  within_same same = (
    (λ limited. let all = within.0 limited in let is = same.all in omega (arith, all, is)),
    (λ d limited. let each = within.1 d limited in let is = same.each d in omega (arith, each, is)),
  )

  pub within_held : (id : JobId) (held : SeenJob) → HasRoom limits old id.desk → HoldsJob old id held new → KeepsLimits limits new
  within_held id held room holds = (
    (λ limited. let below = room.all limited in let more = holds.all in omega (arith, below, more)),
    each,
  )
    where
      each : (d : ℕ) → 1 ≤ limit_at limits d → open_at new d ≤ limit_at limits d
      each d limited =
          elim (cases_eq d id.desk) [
            | inl same ↦
                let below : open_at old id.desk < limit_at limits id.desk = room.desk (subst (λ (e : ℕ). 1 ≤ limit_at limits e) same limited) in
                let more = holds.desk in
                let here : open_at new id.desk ≤ limit_at limits id.desk = omega (arith, below, more) in
                subst (λ (e : ℕ). open_at new e ≤ limit_at limits e) (sym same) here
            | inr apart ↦ let was = within.1 d limited in let is = holds.changes.other_desks d apart in omega (arith, was, is)
          ]

  pub within_dropped : (id : JobId) (held : SeenJob) → DropsJob old id held new → KeepsLimits limits new
  within_dropped id held drops = (
    (λ limited. let all = within.0 limited in let less = drops.all in omega (arith, all, less)),
    each,
  )
    where
      each : (d : ℕ) → 1 ≤ limit_at limits d → open_at new d ≤ limit_at limits d
      each d limited =
          elim (cases_eq d id.desk) [
            | inl same ↦
                let was : open_at old id.desk ≤ limit_at limits id.desk = within.1 id.desk (subst (λ (e : ℕ). 1 ≤ limit_at limits e) same limited) in
                let less = drops.desk in
                let here : open_at new id.desk ≤ limit_at limits id.desk = omega (arith, was, less) in
                subst (λ (e : ℕ). open_at new e ≤ limit_at limits e) (sym same) here
            | inr apart ↦ let was = within.1 d limited in let is = drops.changes.other_desks d apart in omega (arith, was, is)
          ]

-- a job that was held and dropped again leaves the table as it was
pub held_dropped : (old mid new : List (BTreeMap ℕ SeenJob)) (id : JobId) (held given : SeenJob) → HoldsJob old id held mid → DropsJob mid id given new → IsSameTable old new
held_dropped old mid new id held given holds drops = record {
  jobs = same_job;
  desks = drops.changes.desks ∙ holds.changes.desks;
  each = same_count;
  all = let more = holds.all in let less = drops.all in omega (arith, more, less);
}
  where
    named_cases : (a b : JobId) → (a ≡ b) ⊎ (a ≢ b)
    named_cases a b =
        elim (cases_eq a.desk b.desk) [
          | inl desk ↦
              elim (cases_eq a.number b.number) [
                | inl number ↦ inl (λ i. record { desk = desk i; number = number i })
                | inr apart ↦ inr (λ same. apart (ap (λ (j : JobId). j.number) same))
              ]
          | inr apart ↦ inr (λ same. apart (ap (λ (j : JobId). j.desk) same))
        ]

    same_job : (other : JobId) → held_job_at new other ≡ held_job_at old other
    same_job other =
        elim (named_cases other id) [
          | inl same ↦ ap (held_job_at new) same ∙ (drops.changes.here ∙ (sym holds.was_none ∙ sym (ap (held_job_at old) same)))
          | inr apart ↦ drops.changes.others other apart ∙ holds.changes.others other apart
        ]

    same_count : (d : ℕ) → open_at new d ≡ open_at old d
    same_count d =
        elim (cases_eq d id.desk) [
          | inl same ↦
              let more = holds.desk in
              let less = drops.desk in
              let here : open_at new id.desk ≡ open_at old id.desk = omega (arith, more, less) in
              subst (λ (e : ℕ). open_at new e ≡ open_at old e) (sym same) here
          | inr apart ↦ drops.changes.other_desks d apart ∙ holds.changes.other_desks d apart
        ]

pub same_itself : (table : List (BTreeMap ℕ SeenJob)) → IsSameTable table table
same_itself table = record { jobs = λ id. refl; desks = refl; each = λ d. refl; all = refl }

-- ---- tickets

pub ticketed_more : (part now : List PoolStep) (job : PooledJob) (n m : ℕ) → n ≡ length (over_steps job_started part) → m ≡ n + 1 → now ≡ part ++ Started job ∷ [] → m ≡ length (over_steps job_started now)
ticketed_more part now job n m was next is =
    let longer : length (over_steps job_started part ++ job ∷ []) ≡ length (over_steps job_started part) + 1 = length-append (over_steps job_started part) (job ∷ []) in
    next ∙ (ap (λ (k : ℕ). k + 1) was ∙ (sym longer ∙ sym (ap (λ (l : List PoolStep). length (over_steps job_started l)) is ∙ ap length (one_step job_started part (Started job)))))

pub ticketed_still : (part now : List PoolStep) (step : PoolStep) (n : ℕ) → n ≡ length (over_steps job_started part) → job_started step ≡ [] → now ≡ part ++ step ∷ [] → n ≡ length (over_steps job_started now)
ticketed_still part now step n was none is =
    was ∙ sym (ap (λ (l : List PoolStep). length (over_steps job_started l)) is ∙ ap length (still_step job_started part step none))

-- ---- a job by its ticket

pub ticket_found : (o : Option SeenJob) (held : SeenJob) (ticket : ℕ) → o ≡ Some held → Some ticket ≡ option_map (λ h. h.job.ticket) o → ticket ≡ held.job.ticket
ticket_found o held ticket is found = some_number ticket held.job.ticket (found ∙ ap (option_map (λ h. h.job.ticket)) is)
  where
    some_number : (a b : ℕ) → Some a ≡ Some b → a ≡ b
    some_number a b e = cc
