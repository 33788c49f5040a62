-- Each end's part of a history, the jobs of a queue, and what one step more does to them.
use Rattle.std.proofs.Common.{◌≡◌, ◌≢◌, ◌==◌, ◌%◌, ◌⊎◌, inl, inr, ℕ, zero, suc, Bool, true, false, List, [], ◌∷◌, ◌++◌, length, if◌then◌else◌, refl, sym, ap, subst, ◌∙◌}
use mathlib.Core.Option.{some, some-ne-none, some-injective}
use lib.ListN.{get_elem?}
use Rattle.job_pools.specs.declared.job_seats.StartedJob.{StartedJob}
use Rattle.job_pools.specs.declared.queues.Traffic.{Traffic}
use Rattle.job_pools.specs.declared.turn_seats.QueueStep.{QueueStep}
use Rattle.job_pools.specs.declared.turn_seats.TurnView.{TurnView}
use Rattle.job_pools.specs.Queues.{with_put, with_taken}
use Rattle.job_pools.specs.Turns.{TurnEvent, Put, Take, WaitingFlow, rest_of_flow, put_behind, TakesNext, TurnStep, TurnsLeadTo}
use Rattle.job_pools.specs.TurnHistories.{job_line, turn_of, turns_of, steps_of, puts_of, takes_of, traffic_of, jobs_of, flows_of_jobs, LeadsToWaiting}
use Rattle.job_pools.proofs.TurnSteps.{is_same, is_other, if_true, if_false, if_cases}
use Rattle.job_pools.proofs.TurnOrder.{leads_more}

-- ---- an end's part

pub steps_own : (n : ℕ) (history : List QueueStep) (e : QueueStep) → e.end ≡ n → steps_of n (history ++ e ∷ []) ≡ steps_of n history ++ e ∷ []
steps_own n [] e is = if_true (e.end == n) (e ∷ []) [] (is_same e.end n is)
steps_own n (x ∷ xs) e is =
    let rest_is : steps_of n (xs ++ e ∷ []) ≡ steps_of n xs ++ e ∷ [] = steps_own n xs e is in
    by_test (x.end == n) rest_is
  where
    by_test : (b : Bool) → steps_of n (xs ++ e ∷ []) ≡ steps_of n xs ++ e ∷ []
        → (if b then x ∷ steps_of n (xs ++ e ∷ []) else steps_of n (xs ++ e ∷ [])) ≡ (if b then x ∷ steps_of n xs else steps_of n xs) ++ e ∷ []
    by_test true rest_is = ap (λ (l : List QueueStep). x ∷ l) rest_is
    by_test false rest_is = rest_is

pub steps_other : (n : ℕ) (history : List QueueStep) (e : QueueStep) → e.end ≢ n → steps_of n (history ++ e ∷ []) ≡ steps_of n history
steps_other n [] e differs = if_false (e.end == n) (e ∷ []) [] (is_other e.end n differs)
steps_other n (x ∷ xs) e differs = ap (λ (l : List QueueStep). if x.end == n then x ∷ l else l) (steps_other n xs e differs)

-- what stands in a list that is longer by one
pub at_end : (l : List TurnView) (a b : TurnView) (j : ℕ) → get_elem? (l ++ a ∷ []) j ≡ some b → (get_elem? l j ≡ some b) ⊎ ((j ≡ length l) × (a ≡ b))
at_end [] a b zero e = inr (refl, some-injective a b e)
at_end [] a b (suc j) e = absurd (some-ne-none b (sym e))
at_end (x ∷ xs) a b zero e = inl e
at_end (x ∷ xs) a b (suc j) e = later (at_end xs a b j e)
  where
    later : (get_elem? xs j ≡ some b) ⊎ ((j ≡ length xs) × (a ≡ b)) → (get_elem? xs j ≡ some b) ⊎ ((suc j ≡ suc (length xs)) × (a ≡ b))
    later (inl was) = inl was
    later (inr t) = inr (ap suc t.0, t.1)

-- ---- an end's traffic

puts_more : (part : List QueueStep) (e : QueueStep) → puts_of (part ++ e ∷ []) ≡ puts_of part ++ puts_of (e ∷ [])
puts_more [] e = refl
puts_more (x ∷ xs) e = by_test x.is_put (puts_more xs e)
  where
    by_test : (b : Bool) → puts_of (xs ++ e ∷ []) ≡ puts_of xs ++ puts_of (e ∷ [])
        → (if b then x.job ∷ puts_of (xs ++ e ∷ []) else puts_of (xs ++ e ∷ [])) ≡ (if b then x.job ∷ puts_of xs else puts_of xs) ++ puts_of (e ∷ [])
    by_test true rest_is = ap (λ (l : List StartedJob). x.job ∷ l) rest_is
    by_test false rest_is = rest_is

takes_more : (part : List QueueStep) (e : QueueStep) → takes_of (part ++ e ∷ []) ≡ takes_of part ++ takes_of (e ∷ [])
takes_more [] e = refl
takes_more (x ∷ xs) e = by_test x.is_put (takes_more xs e)
  where
    by_test : (b : Bool) → takes_of (xs ++ e ∷ []) ≡ takes_of xs ++ takes_of (e ∷ [])
        → (if b then takes_of (xs ++ e ∷ []) else x.job ∷ takes_of (xs ++ e ∷ [])) ≡ (if b then takes_of xs else x.job ∷ takes_of xs) ++ takes_of (e ∷ [])
    by_test true rest_is = rest_is
    by_test false rest_is = ap (λ (l : List StartedJob). x.job ∷ l) rest_is

nil_behind : (l : List StartedJob) → l ++ [] ≡ l
nil_behind [] = refl
nil_behind (x ∷ xs) = ap (λ (ys : List StartedJob). x ∷ ys) (nil_behind xs)

-- a put is one put more, and nothing else
pub traffic_put : (part now : List QueueStep) (e : QueueStep) (job : StartedJob) → now ≡ part ++ e ∷ [] → e.is_put ≡ true → e.job ≡ job → traffic_of now ≡ with_put (traffic_of part) job
traffic_put part now e job longer is whose =
    ap traffic_of longer
    ∙ (λ i. record { put = puts i; taken = takes i })
  where
    puts : puts_of (part ++ e ∷ []) ≡ puts_of part ++ job ∷ []
    puts = puts_more part e ∙ ap (λ (l : List StartedJob). puts_of part ++ l) (if_true e.is_put (e.job ∷ []) [] is ∙ ap (λ (j : StartedJob). j ∷ []) whose)

    takes : takes_of (part ++ e ∷ []) ≡ takes_of part
    takes = takes_more part e ∙ (ap (λ (l : List StartedJob). takes_of part ++ l) (if_true e.is_put [] (e.job ∷ []) is) ∙ nil_behind (takes_of part))

-- and a take one take more
pub traffic_taken : (part now : List QueueStep) (e : QueueStep) (job : StartedJob) → now ≡ part ++ e ∷ [] → e.is_put ≡ false → e.job ≡ job → traffic_of now ≡ with_taken (traffic_of part) job
traffic_taken part now e job longer is whose =
    ap traffic_of longer
    ∙ (λ i. record { put = puts i; taken = takes i })
  where
    puts : puts_of (part ++ e ∷ []) ≡ puts_of part
    puts = puts_more part e ∙ (ap (λ (l : List StartedJob). puts_of part ++ l) (if_false e.is_put (e.job ∷ []) [] is) ∙ nil_behind (puts_of part))

    takes : takes_of (part ++ e ∷ []) ≡ takes_of part ++ job ∷ []
    takes = takes_more part e ∙ ap (λ (l : List StartedJob). takes_of part ++ l) (if_false e.is_put [] (e.job ∷ []) is ∙ ap (λ (j : StartedJob). j ∷ []) whose)

-- ---- the whole history

turns_more : (history : List QueueStep) (e : QueueStep) → turns_of (history ++ e ∷ []) ≡ turns_of history ++ turn_of e ∷ []
turns_more [] e = refl
turns_more (x ∷ xs) e = ap (λ (l : List (TurnEvent StartedJob)). turn_of x ∷ l) (turns_more xs e)

module _ {X : Type 0} (job : X → StartedJob) where
  jobs_more : (xs : List X) (x : X) → jobs_of job (xs ++ x ∷ []) ≡ jobs_of job xs ++ job x ∷ []
  jobs_more [] x = refl
  jobs_more (y ∷ ys) x = ap (λ (l : List StartedJob). job y ∷ l) (jobs_more ys x)

  flows_more : (q r : List (WaitingFlow X)) → flows_of_jobs job (q ++ r) ≡ flows_of_jobs job q ++ flows_of_jobs job r
  flows_more [] r = refl
  flows_more (f ∷ fs) r = ap (λ (l : List (WaitingFlow StartedJob)). record { number = f.number; waiting = jobs_of job f.waiting } ∷ l) (flows_more fs r)

  flows_rest : (n : ℕ) (xs : List X) → flows_of_jobs job (rest_of_flow n xs) ≡ rest_of_flow n (jobs_of job xs)
  flows_rest n [] = refl
  flows_rest n (x ∷ xs) = refl

  put_of_jobs : (n : ℕ) (x : X) (q : List (WaitingFlow X)) → flows_of_jobs job (put_behind n x q) ≡ put_behind n (job x) (flows_of_jobs job q)
  put_of_jobs n x [] = refl
  put_of_jobs n x (f ∷ fs) = by_test (f.number == n) (put_of_jobs n x fs)
    where
      by_test : (b : Bool) → flows_of_jobs job (put_behind n x fs) ≡ put_behind n (job x) (flows_of_jobs job fs)
          → flows_of_jobs job (if b then record { number = f.number; waiting = f.waiting ++ x ∷ [] } ∷ fs else f ∷ put_behind n x fs)
          ≡ (if b then record { number = f.number; waiting = jobs_of job f.waiting ++ job x ∷ [] } ∷ flows_of_jobs job fs else record { number = f.number; waiting = jobs_of job f.waiting } ∷ put_behind n (job x) (flows_of_jobs job fs))
      by_test true rest_is = ap (λ (l : List StartedJob). record { number = f.number; waiting = l } ∷ flows_of_jobs job fs) (jobs_more f.waiting x)
      by_test false rest_is = ap (λ (l : List (WaitingFlow StartedJob)). record { number = f.number; waiting = jobs_of job f.waiting } ∷ l) rest_is

  take_of_jobs : (q r : List (WaitingFlow X)) (n : ℕ) (x : X) → TakesNext q n x r → TakesNext (flows_of_jobs job q) n (job x) (flows_of_jobs job r)
  take_of_jobs q r n x takes = (
    jobs_of job takes.0,
    flows_of_jobs job takes.1,
    ap (flows_of_jobs job) takes.2,
    ap (flows_of_jobs job) takes.3 ∙ (flows_more takes.1 (rest_of_flow n takes.0) ∙ ap (λ (l : List (WaitingFlow StartedJob)). flows_of_jobs job takes.1 ++ l) (flows_rest n takes.0)),
  )

  -- nothing was put, and nothing waits
  pub leads_none : (history : List QueueStep) (q : List (WaitingFlow X)) → history ≡ [] → q ≡ [] → LeadsToWaiting job history q
  leads_none history q none empty = subst (λ (y : List QueueStep × List (WaitingFlow X)). LeadsToWaiting job y.0 y.1) (λ i. (sym none i, sym empty i)) refl

  -- a put of the job that was put
  pub leads_put : (history now : List QueueStep) (e : QueueStep) (q r : List (WaitingFlow X)) (n : ℕ) (x : X)
      → LeadsToWaiting job history q → now ≡ history ++ e ∷ [] → e.is_put ≡ true → e.job ≡ job x → n ≡ job_line (job x) → r ≡ put_behind n x q → LeadsToWaiting job now r
  leads_put history now e q r n x leads longer is whose line put =
      subst (λ (l : List (TurnEvent StartedJob)). TurnsLeadTo [] l (flows_of_jobs job r)) (sym (ap turns_of longer ∙ turns_more history e))
      (leads_more (turns_of history) (turn_of e) [] (flows_of_jobs job q) (flows_of_jobs job r) leads
      (subst (λ (t : TurnEvent StartedJob). TurnStep (flows_of_jobs job q) t (flows_of_jobs job r)) (sym event) step))
    where
      event : turn_of e ≡ Put n (job x)
      event = if_true e.is_put (Put (job_line e.job) e.job) (Take e.flow e.job) is ∙ (λ i. Put ((ap job_line whose ∙ sym line) i) (whose i))

      step : flows_of_jobs job r ≡ put_behind n (job x) (flows_of_jobs job q)
      step = ap (flows_of_jobs job) put ∙ put_of_jobs n x q

  -- a take of the job that was taken
  pub leads_take : (history now : List QueueStep) (e : QueueStep) (q r : List (WaitingFlow X)) (n : ℕ) (x : X)
      → LeadsToWaiting job history q → now ≡ history ++ e ∷ [] → e.is_put ≡ false → e.flow ≡ n → e.job ≡ job x → TakesNext q n x r → LeadsToWaiting job now r
  leads_take history now e q r n x leads longer is flow whose takes =
      subst (λ (l : List (TurnEvent StartedJob)). TurnsLeadTo [] l (flows_of_jobs job r)) (sym (ap turns_of longer ∙ turns_more history e))
      (leads_more (turns_of history) (turn_of e) [] (flows_of_jobs job q) (flows_of_jobs job r) leads
      (subst (λ (t : TurnEvent StartedJob). TurnStep (flows_of_jobs job q) t (flows_of_jobs job r)) (sym event) (take_of_jobs q r n x takes)))
    where
      event : turn_of e ≡ Take n (job x)
      event = if_false e.is_put (Put (job_line e.job) e.job) (Take e.flow e.job) is ∙ (λ i. Take (flow i) (whose i))
