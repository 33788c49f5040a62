-- Whole runs of a pool: the open jobs of the history are those of the table, and the limits hold.
use Rattle.std.proofs.Common.{◌≡◌, ◌≢◌, ◌==◌, ◌≤◌, ℕ, Bool, true, false, List, Option, Some, None, Result, Err, if◌then◌else◌, option_map, refl, sym, ap, subst, ◌∙◌, ◌⊎◌, inl, inr, arith}
use Rattle.std.specs.BTreeMap.{BTreeMap}
use Rattle.credit_book.specs.declared.board.Progress.{Progress}
use Rattle.credit_book.specs.declared.book.Report.{Report}
use Rattle.job_core.specs.Admitted.{AdmittedJob}
use Rattle.server_state.specs.declared.job_id.JobId.{JobId}
use Rattle.job_pool.specs.Holdings.{ChangesJob, HasRoom, KeepsLimits, PoolLimits, SeenJob, StartsJob, TakesHeldJob, held_job_at, job_held, limit_at, looks_under, open_at}
use Rattle.job_pool.specs.PooledJobs.{PooledJob, IsJobEnd}
use Rattle.job_pool.specs.PoolRuns.{PoolEvent, PoolRuns, begun, is_id, looked, refused, started, still_open, took, took_none}
use Rattle.job_pool.specs.HeldLemmas.{id_apart, id_is, look_keeps_jobs, number_is, same_number}
use Rattle.job_pool.proofs.Limits.{within_dropped, within_held, within_same}

-- ---- the open jobs

-- a change under one name, by a test of the name
by_name : (old new : List (BTreeMap ℕ SeenJob)) (id : JobId) (held : Option SeenJob) (open_job : Option AdmittedJob) (events : List PoolEvent) → ChangesJob old id held new → option_map (λ h. h.job.job) held ≡ open_job
    → ((other : JobId) → job_held old other ≡ still_open other events) → (other : JobId) → job_held new other ≡ (if is_id other id then open_job else still_open other events)
by_name old new id held open_job events change is were other = by_test (is_id other id) refl
  where
    by_test : (b : Bool) → is_id other id ≡ b → job_held new other ≡ (if b then open_job else still_open other events)
    by_test true same = ap (job_held new) (id_is other id same) ∙ (ap (option_map (λ h. h.job.job)) change.here ∙ is)
    by_test false apart = ap (option_map (λ h. h.job.job)) (change.others other (id_apart other id apart)) ∙ were other

-- a look leaves the jobs as they are
look_keeps : (limits : PoolLimits) (old new : List (BTreeMap ℕ SeenJob)) (id : JobId) (o : Option SeenJob) (told : Progress) → held_job_at old id ≡ o → looks_under old id o told new
    → ((other : JobId) → job_held new other ≡ job_held old other) × (KeepsLimits limits old → KeepsLimits limits new)
unfolding looks_under
look_keeps limits old new id None told is looks =
    ((λ other. ap (λ (t : List (BTreeMap ℕ SeenJob)). job_held t other) looks.1), (λ within. subst (KeepsLimits limits) (sym looks.1) within))
look_keeps limits old new id (Some held) told is looks = (look_keeps_jobs old new id (Some held) told is looks, within_kept)
  where
    within_kept : KeepsLimits limits old → KeepsLimits limits new
    within_kept within = (
      (λ limited. let all = within.0 limited in let is_all = looks.all in omega (arith, all, is_all)),
      each,
    )
      where
        each : (d : ℕ) → 1 ≤ limit_at limits d → open_at new d ≤ limit_at limits d
        each d limited = by_desk (d == id.desk) refl
          where
            by_desk : (b : Bool) → (d == id.desk) ≡ b → open_at new d ≤ limit_at limits d
            by_desk true same =
                let desk_is : d ≡ id.desk = number_is d id.desk same in
                let was = within.1 id.desk (subst (λ (e : ℕ). 1 ≤ limit_at limits e) desk_is limited) in
                let now = looks.desk in
                let here : open_at new id.desk ≤ limit_at limits id.desk = omega (arith, was, now) in
                subst (λ (e : ℕ). open_at new e ≤ limit_at limits e) (sym desk_is) here
            by_desk false apart =
                let differs : d ≢ id.desk = λ desk_is. let clash : true ≡ false = sym (same_number d id.desk desk_is) ∙ apart in cc in
                let was = within.1 d limited in
                let now = looks.changes.other_desks d differs in
                omega (arith, was, now)

module _ (limits : PoolLimits) (has_workers : Bool) where
  pub runs_keep : (events : List PoolEvent) (table : List (BTreeMap ℕ SeenJob)) → PoolRuns limits has_workers events table
      → ((other : JobId) → job_held table other ≡ still_open other events) × KeepsLimits limits table
  runs_keep _ table (begun _ fresh) = (
    (λ other. ap (option_map (λ h. h.job.job)) (fresh.jobs other)),
    (
      (λ limited. let none = fresh.all in omega (arith, none)),
      (λ d limited. let none = fresh.each d in omega (arith, none)),
    ),
  )
  runs_keep _ table (started events old _ ticket id job runs starts) =
      let was = runs_keep events old runs in
      let held = starts.2.0 in
      let holds = starts.2.2 in (
        by_name old table id (Some held) (Some job) events holds.changes (ap (λ (j : PooledJob). Some j.job) starts.2.1.is) was.0,
        within_held limits old table was.1 id held starts.0 holds,
      )
  runs_keep events table (refused _ old _ ticket id job code runs starts) =
      let was = runs_keep events old runs in
      ((λ other. ap (option_map (λ h. h.job.job)) (starts.1.jobs other) ∙ was.0 other), within_same limits old table was.1 starts.1)
  runs_keep events table (looked _ old _ id told runs looks) =
      let was = runs_keep events old runs in
      let kept = look_keeps limits old table id (held_job_at old id) told refl looks in
      ((λ other. kept.0 other ∙ was.0 other), kept.1 was.1)
  runs_keep _ table (took events old _ id outcome runs takes) =
      let was = runs_keep events old runs in
      let drops = takes.2 in
      (by_name old table id None None events drops.changes refl was.0, within_dropped limits old table was.1 id takes.0 drops)
  runs_keep events table (took_none _ old _ runs takes) =
      let was = runs_keep events old runs in
      ((λ other. ap (λ (t : List (BTreeMap ℕ SeenJob)). job_held t other) takes ∙ was.0 other), subst (KeepsLimits limits) (sym takes) was.1)

  pub taken_was_started : (events : List PoolEvent) (old new : List (BTreeMap ℕ SeenJob)) (id : JobId) (outcome : Result Report ℕ) → PoolRuns limits has_workers events old → TakesHeldJob old (Some (id, outcome)) new
      → (job : AdmittedJob) × (still_open id events ≡ Some job) × IsJobEnd id job outcome
  taken_was_started events old new id outcome runs takes =
      let held = takes.0 in
      (held.job.job, sym ((runs_keep events old runs).0 id) ∙ ap (option_map (λ h. h.job.job)) takes.2.was, takes.1)

  pub limits_held : (events : List PoolEvent) (table : List (BTreeMap ℕ SeenJob)) → PoolRuns limits has_workers events table → KeepsLimits limits table
  limits_held events table runs = (runs_keep events table runs).1

pub room_is_served : (limits : PoolLimits) (ticket : ℕ) (old new : List (BTreeMap ℕ SeenJob)) (id : JobId) (job : AdmittedJob) → HasRoom limits old id.desk → held_job_at old id ≡ None → StartsJob limits true ticket old id job (Err 81) new → ⊥
room_is_served limits ticket old new id job room free starts = by_cause 81 refl starts.0
  where
    by_cause : (code : ℕ) → code ≡ 81 → ((code ≡ 81) × ((HasRoom limits old id.desk × (true ≡ true) × (held_job_at old id ≡ None)) → ⊥)) ⊎ (code ≡ 99) → ⊥
    by_cause code is (inl full) = full.1 (room, refl, free)
    by_cause code is (inr memory) = omega (arith, is, memory)
