-- The history of a pool: the jobs that were started and taken, and those that are open.
use Rattle.std.specs.Prelude.{◌==◌, ◌&&◌, ℕ, Bool, List, [], ◌∷◌, Option, Some, None, Result, Ok, Err, if◌then◌else◌}
use Rattle.std.specs.BTreeMap.{BTreeMap}
use Rattle.credit_book.specs.declared.board.Progress.{Progress}
use Rattle.credit_book.specs.declared.book.Report.{Report}
use Rattle.job_core.specs.Admitted.{AdmittedJob}
use Rattle.server_state.specs.declared.job_id.JobId.{JobId}
use Rattle.job_pool.specs.Holdings.{IsFreshTable, PoolLimits, SeenJob, StartsJob, TakesHeldJob, held_job_at, looks_under}

-- a job was started under a name, or that of a name was taken
pub data PoolEvent : Type 0 where
  WasStarted : JobId → AdmittedJob → PoolEvent
  WasTaken : JobId → PoolEvent

abbrev pub is_id : JobId → JobId → Bool
is_id a b = (a.desk == b.desk) && (a.number == b.number)

-- the job of a name that was started last and not taken since, the latest event in front
abbrev pub still_open : JobId → List PoolEvent → Option AdmittedJob
still_open id [] = None
still_open id (WasStarted other job ∷ events) =
    if is_id id other then Some job else still_open id events
still_open id (WasTaken other ∷ events) = if is_id id other then None else still_open id events

-- A pool has come from its beginning, by these events, to this table.
pub data PoolRuns (limits : PoolLimits) (has_workers : Bool)
    : List PoolEvent → List (BTreeMap ℕ SeenJob) → Type 0 where
  begun : (table : List (BTreeMap ℕ SeenJob)) → IsFreshTable table
      → PoolRuns limits has_workers [] table
  started : (events : List PoolEvent) (old new : List (BTreeMap ℕ SeenJob)) (ticket : ℕ) (id : JobId)
      (job : AdmittedJob) → PoolRuns limits has_workers events old
      → StartsJob limits has_workers ticket old id job (Ok tt) new
      → PoolRuns limits has_workers (WasStarted id job ∷ events) new
  refused : (events : List PoolEvent) (old new : List (BTreeMap ℕ SeenJob)) (ticket : ℕ) (id : JobId)
      (job : AdmittedJob) (code : ℕ) → PoolRuns limits has_workers events old
      → StartsJob limits has_workers ticket old id job (Err code) new
      → PoolRuns limits has_workers events new
  looked : (events : List PoolEvent) (old new : List (BTreeMap ℕ SeenJob)) (id : JobId)
      (told : Progress) → PoolRuns limits has_workers events old
      → looks_under old id (held_job_at old id) told new → PoolRuns limits has_workers events new
  took : (events : List PoolEvent) (old new : List (BTreeMap ℕ SeenJob)) (id : JobId)
      (outcome : Result Report ℕ) → PoolRuns limits has_workers events old
      → TakesHeldJob old (Some (id, outcome)) new
      → PoolRuns limits has_workers (WasTaken id ∷ events) new
  took_none : (events : List PoolEvent) (old new : List (BTreeMap ℕ SeenJob))
      → PoolRuns limits has_workers events old → TakesHeldJob old None new
      → PoolRuns limits has_workers events new
