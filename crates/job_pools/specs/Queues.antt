-- What an end of a queue knows: what it put in itself, and what it took out.
use Rattle.std.specs.Prelude.{◌≡◌, ◌⊎◌, ℕ, List, [], ◌∷◌, ◌++◌, Option, Some, None, Result, Ok, Err}
use Rattle.crossbeam_channel.specs.Claims.{Pass, view}
use Rattle.credit_book.specs.declared.book.Report.{Report}
use Rattle.job_core.specs.Admitted.{AdmittedJob}
use Rattle.job_pools.specs.declared.job_seats.StartedJob.{StartedJob}
use Rattle.job_pools.specs.declared.queues.Traffic.{Traffic}

-- what a pass of a queue knows
abbrev pub known : {X V : Type 0} → Pass X V → V
known p = view p

abbrev pub nothing : Traffic
nothing = record { put = []; taken = [] }

abbrev pub with_put : Traffic → StartedJob → Traffic
with_put v job = record { put = v.put ++ job ∷ []; taken = v.taken }

abbrev pub with_taken : Traffic → StartedJob → Traffic
with_taken v job = record { put = v.put; taken = v.taken ++ job ∷ [] }

-- a start that is answered Ok has put this very job into the queue, and any other nothing
abbrev pub PutsStarted : Traffic → ℕ → AdmittedJob → Result (Unit {0}) ℕ → Traffic → Type 0
PutsStarted old number job (Ok _) new = new ≡ with_put old (record { number = number; job = job })
PutsStarted old number job (Err code) new = new ≡ old

-- What is given was taken out of the queue of ends. Nothing was taken where none is given, but for an
-- end of a job that isn't held.
abbrev pub TakesEnded : (ℕ → Type 0) → Traffic → Option (ℕ × Result Report ℕ) → Traffic → Type 0
TakesEnded is_held old (Some taken) new =
    (job : AdmittedJob) × (new ≡ with_taken old (record { number = taken.0; job = job }))
TakesEnded is_held old None new =
    (new ≡ old) ⊎ ((s : StartedJob) × (is_held s.number → ⊥) × (new ≡ with_taken old s))

-- Between two moments a worker took these jobs, ran each, and gave its end back, in order. The last
-- end may be left over, where nobody takes ends any more.
pub record AnswersEach (jobs jobs_after ends ends_after : Traffic) : Type 0 where
  pub took : List StartedJob
  pub gave : List StartedJob
  pub taken : jobs_after.taken ≡ jobs.taken ++ took
  pub given : ends_after.put ≡ ends.put ++ gave
  pub each : (gave ≡ took) ⊎ ((s : StartedJob) × (gave ++ s ∷ [] ≡ took))
