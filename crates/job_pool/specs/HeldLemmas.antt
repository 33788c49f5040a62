-- What each step of a pool does to the jobs that it holds under their names.
use Rattle.std.proofs.Common.{◌≡◌, ◌≢◌, ◌==◌, ◌&&◌, ◌+◌, ℕ, Bool, true, false, List, Option, Some, None, Result, Ok, Err, option_map, ap, sym, ◌∙◌, ◌⊎◌, inl, inr, refl, arith}
use Rattle.std.proofs.lemmas.Bool.Decides.{nat_tests}
use Rattle.std.specs.BTreeMap.{BTreeMap}
use Rattle.credit_book.specs.declared.board.Progress.{Progress}
use Rattle.credit_book.specs.declared.book.Report.{Report}
use Rattle.job_core.specs.Admitted.{AdmittedJob}
use Rattle.server_state.specs.declared.job_id.JobId.{JobId}
use Rattle.job_pool.specs.Holdings.{ChangesJob, IsStartRefusal, PoolLimits, SeenJob, StartsJob, TakesHeldJob, held_job_at, job_held, looks_under}
use Rattle.job_pool.specs.PooledJobs.{IsJobEnd, PooledJob}
use Rattle.job_pool.specs.PoolRuns.{is_id}

-- ---- names

pub same_number : (m n : ℕ) → m ≡ n → (m == n) ≡ true
same_number m n is = grind (arith, nat_tests)

pub number_is : (m n : ℕ) → (m == n) ≡ true → m ≡ n
number_is m n is = grind (arith, nat_tests)

both_true : (a b : Bool) → a ≡ true → b ≡ true → (a && b) ≡ true
both_true true b first second = second
both_true false b first second = first

true_first : (a b : Bool) → (a && b) ≡ true → a ≡ true
true_first true b both = refl
true_first false b both = both

true_second : (a b : Bool) → (a && b) ≡ true → b ≡ true
true_second true b both = both
true_second false b both = absurd (let clash : false ≡ true = both in cc)

pub id_same : (a b : JobId) → a ≡ b → is_id a b ≡ true
id_same a b same = both_true (a.desk == b.desk) (a.number == b.number) (same_number a.desk b.desk (ap (λ (j : JobId). j.desk) same)) (same_number a.number b.number (ap (λ (j : JobId). j.number) same))

pub id_is : (a b : JobId) → is_id a b ≡ true → a ≡ b
id_is a b is =
    let desk : a.desk ≡ b.desk = number_is a.desk b.desk (true_first (a.desk == b.desk) (a.number == b.number) is) in
    let number : a.number ≡ b.number = number_is a.number b.number (true_second (a.desk == b.desk) (a.number == b.number) is) in
    λ i. record { desk = desk i; number = number i }

pub id_apart : (a b : JobId) → is_id a b ≡ false → a ≢ b
id_apart a b is = λ same. let clash : true ≡ false = sym (id_same a b same) ∙ is in cc

-- ---- the steps

-- a look leaves the jobs as they are
pub look_keeps_jobs : (old new : List (BTreeMap ℕ SeenJob)) (id : JobId) (o : Option SeenJob) (told : Progress) → held_job_at old id ≡ o → looks_under old id o told new → (other : JobId) → job_held new other ≡ job_held old other
unfolding looks_under
look_keeps_jobs old new id None told is looks other = ap (λ (t : List (BTreeMap ℕ SeenJob)). job_held t other) looks.1
look_keeps_jobs old new id (Some held) told is looks other = by_test (is_id other id) refl
  where
    by_test : (b : Bool) → is_id other id ≡ b → job_held new other ≡ job_held old other
    by_test true same =
        ap (job_held new) (id_is other id same)
        ∙ (ap (option_map (λ h. h.job.job)) looks.changes.here
        ∙ (sym (ap (option_map (λ h. h.job.job)) is) ∙ sym (ap (job_held old) (id_is other id same))))
    by_test false apart = ap (option_map (λ h. h.job.job)) (looks.changes.others other (id_apart other id apart))

module _ (old new : List (BTreeMap ℕ SeenJob)) where
  others_same : (id : JobId) (held : Option SeenJob) → ChangesJob old id held new → (other : JobId) → other ≢ id → job_held new other ≡ job_held old other
  others_same id held changes other apart = ap (option_map (λ (h : SeenJob). h.job.job)) (changes.others other apart)

  pub held_started : (limits : PoolLimits) (has_workers : Bool) (ticket : ℕ) (id : JobId) (job : AdmittedJob) (done : Unit {0}) → StartsJob limits has_workers ticket old id job (Ok done) new
      → (job_held new id ≡ Some job) × ((other : JobId) → other ≢ id → job_held new other ≡ job_held old other)
  held_started limits has_workers ticket id job done starts =
      let held = starts.2.0 in
      let holds = starts.2.2 in (
        ap (option_map (λ (h : SeenJob). h.job.job)) holds.changes.here ∙ ap (λ (j : PooledJob). Some j.job) starts.2.1.is,
        others_same id (Some held) holds.changes,
      )

  pub held_refused : (limits : PoolLimits) (has_workers : Bool) (ticket : ℕ) (id : JobId) (job : AdmittedJob) (code : ℕ) → StartsJob limits has_workers ticket old id job (Err code) new
      → IsStartRefusal code × ((other : JobId) → job_held new other ≡ job_held old other)
  held_refused limits has_workers ticket id job code refuses =
      (by_cause refuses.0, (λ other. ap (option_map (λ (h : SeenJob). h.job.job)) (refuses.1.jobs other)))
    where
      by_cause : {A : Type 0} → ((code ≡ 81) × A) ⊎ (code ≡ 99) → IsStartRefusal code
      by_cause (inl full) = inl full.0
      by_cause (inr memory) = inr memory

  pub held_looked : (id : JobId) (told : Progress) → looks_under old id (held_job_at old id) told new → (other : JobId) → job_held new other ≡ job_held old other
  held_looked id told looks = look_keeps_jobs old new id (held_job_at old id) told refl looks

  pub held_taken : (id : JobId) (outcome : Result Report ℕ) → TakesHeldJob old (Some (id, outcome)) new
      → (job : AdmittedJob) × (job_held old id ≡ Some job) × IsJobEnd id job outcome × ((other : JobId) → other ≢ id → job_held new other ≡ job_held old other)
  held_taken id outcome takes =
      let held = takes.0 in
      (held.job.job, ap (option_map (λ (h : SeenJob). h.job.job)) takes.2.was, takes.1, others_same id None takes.2.changes)

  pub held_still : TakesHeldJob old None new → (other : JobId) → job_held new other ≡ job_held old other
  held_still same other = ap (λ (t : List (BTreeMap ℕ SeenJob)). job_held t other) same

pub end_is_whole : (id : JobId) (job : AdmittedJob) (report : Report) → IsJobEnd id job (Ok report) → report.spent + report.returned ≡ job.credit
end_is_whole id job report run = run.final.whole
