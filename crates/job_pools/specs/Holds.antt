-- What a start, a look and a take do to the jobs that are held.
use Rattle.std.specs.Prelude.{◌≡◌, ◌≢◌, ◌⊎◌, ◌+◌, ℕ, false, Option, Some, None, Result, Ok, Err}
use Rattle.std.specs.BTreeMap as tree
use Rattle.std.specs.BTreeMap.{btree_map_len}
use Rattle.std.specs.Ordering.{nat_cmp}
use Rattle.slab.specs.Slab as slots
use Rattle.credit_book.specs.declared.book.Report.{Report}
use Rattle.job_core.specs.Admitted.{AdmittedJob}
use Rattle.credit_book.specs.declared.board.Progress.{Progress}
use Rattle.job_pools.specs.declared.held_jobs.HeldJobs.{HeldJobs}
use Rattle.job_pools.specs.Endings.{IsEndOf, IsReportedEnd}
use Rattle.job_pools.specs.Holding.{HeldJob, IsFresh, IsSeen, job_by}

-- by what is held under a number, and by how many are held
module _ {P : Type 0} (held_by : P → ℕ → Option HeldJob) (count_by : P → ℕ) where
  -- under this number this is held, and under each other what was
  pub record ChangesBy (old : P) (number : ℕ) (held : Option HeldJob) (new : P) : Type 0 where
    pub here : held_by new number ≡ held
    pub others : (n : ℕ) → n ≢ number → held_by new n ≡ held_by old n

  -- all are as they were
  pub record IsUnchangedBy (old new : P) : Type 0 where
    pub each : (n : ℕ) → held_by new n ≡ held_by old n
    pub count : count_by new ≡ count_by old

  -- one job more
  pub record AddsBy (old : P) (number : ℕ) (job : AdmittedJob) (new : P) : Type 0 where
    pub held : HeldJob
    pub was_none : held_by old number ≡ None
    pub fresh : IsFresh number job held
    pub changes : ChangesBy old number (Some held) new
    pub count : count_by new ≡ count_by old + 1

  -- a job is held, or the start is refused by 81 or 99
  abbrev pub StartsBy : P → ℕ → AdmittedJob → Result (Unit {0}) ℕ → P → Type 0
  StartsBy old number job (Ok _) new = AddsBy old number job new
  StartsBy old number job (Err code) new = ((code ≡ 81) ⊎ (code ≡ 99)) × IsUnchangedBy old new

  -- a job is seen
  pub record SeesBy (old : P) (number : ℕ) (held : HeldJob) (told : Progress) (new : P) : Type 0 where
    pub later : HeldJob
    pub seen : IsSeen held told later
    pub changes : ChangesBy old number (Some later) new
    pub count : count_by new ≡ count_by old

  -- what is told of what is held under the number
  unfoldable pub looks_by : P → ℕ → Option HeldJob → Progress → P → Type 0
  looks_by old number (Some held) told new = SeesBy old number held told new
  looks_by old number None told new = (told ≡ record { spent = 0; returned = 0; complete = false })
      × IsUnchangedBy old new

  abbrev pub TellsBy : P → ℕ → Progress → P → Type 0
  TellsBy old number told new = looks_by old number (held_by old number) told new

  -- one job fewer, with what it came to: an end of it
  pub record GivesBy (ends : ℕ → AdmittedJob → Result Report ℕ → Type 0) (old : P) (number : ℕ)
      (outcome : Result Report ℕ) (new : P) : Type 0 where
    pub held : HeldJob
    pub was : held_by old number ≡ Some held
    pub end : ends number held.job outcome
    pub changes : ChangesBy old number None new
    pub count : count_by new + 1 ≡ count_by old

  abbrev pub TakesEndBy : (ℕ → AdmittedJob → Result Report ℕ → Type 0) → P
      → Option (ℕ × Result Report ℕ) → P → Type 0
  TakesEndBy ends old (Some taken) new = GivesBy ends old taken.0 taken.1 new
  TakesEndBy ends old None new = IsUnchangedBy old new

  -- its one answer, or 99
  abbrev pub TakesBy : P → Option (ℕ × Result Report ℕ) → P → Type 0
  TakesBy old taken new = TakesEndBy IsEndOf old taken new

-- ---- jobs in places of their own

-- the job that is held under a number
abbrev pub held_at : HeldJobs → ℕ → Option HeldJob
held_at p n = job_by (slots.get p.jobs) (tree.get nat_cmp p.keys n)

-- how many are held
abbrev pub count_of : HeldJobs → ℕ
count_of p = btree_map_len p.keys

abbrev pub SeesHeld : HeldJobs → ℕ → HeldJob → Progress → HeldJobs → Type 0
SeesHeld old number held told new = SeesBy held_at count_of old number held told new

abbrev pub Starts : HeldJobs → ℕ → AdmittedJob → Result (Unit {0}) ℕ → HeldJobs → Type 0
Starts old number job result new = StartsBy held_at count_of old number job result new

abbrev pub TellsProgress : HeldJobs → ℕ → Progress → HeldJobs → Type 0
TellsProgress old number told new = TellsBy held_at count_of old number told new

abbrev pub TakesReport : HeldJobs → Option (ℕ × Result Report ℕ) → HeldJobs → Type 0
TakesReport old taken new = TakesEndBy held_at count_of IsReportedEnd old taken new
