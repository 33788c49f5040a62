-- The jobs that a pool holds, by desks, and its limits.
use Rattle.std.specs.Prelude.{◌≡◌, ◌≢◌, ◌⊎◌, ◌↔◌, ◌+◌, ◌<◌, ◌≤◌, ℕ, Bool, true, false, List, [], ◌∷◌, Option, Some, None, Result, Ok, Err, IsTrue, length, option_map, slice_get, slice_index_or}
use mathlib.Core.List.{IsPrefix}
use Rattle.std.specs.BTreeMap as tree
use Rattle.std.specs.BTreeMap.{BTreeMap, btree_map_len}
use Rattle.std.specs.Ordering.{nat_cmp}
use Rattle.credit_book.specs.Boards.{Sight}
use Rattle.credit_book.specs.History.{IsHistoryOf, IsComplete, table_of, spent_in, returned_in}
use Rattle.credit_book.specs.declared.board.Progress.{Progress}
use Rattle.credit_book.specs.declared.book.Report.{Report}
use Rattle.credit_book.specs.declared.event.Event.TheVariants.{Open}
use Rattle.job_core.specs.Admitted.{AdmittedJob}
use Rattle.server_state.specs.declared.job_id.JobId.{JobId}
use Rattle.job_pool.specs.PooledJobs.{PooledJob, IsJobEnd}

-- a job that was started, and what was seen of its board so far
pub record SeenJob : Type 0 where
  pub job : PooledJob
  pub sight : Sight

-- the job of a number at a desk
abbrev pub numbered_job : Option (BTreeMap ℕ SeenJob) → ℕ → Option SeenJob
numbered_job None n = None
numbered_job (Some jobs) n = tree.get nat_cmp jobs n

-- the job of this name
abbrev pub held_job_at : List (BTreeMap ℕ SeenJob) → JobId → Option SeenJob
held_job_at desks id = numbered_job (slice_get desks id.desk) id.number

-- the job that was started under this name
abbrev pub job_held : List (BTreeMap ℕ SeenJob) → JobId → Option AdmittedJob
job_held desks id = option_map (λ held. held.job.job) (held_job_at desks id)

-- the number of jobs that are open at a desk, and in all
abbrev pub count_of_desk : Option (BTreeMap ℕ SeenJob) → ℕ
count_of_desk None = 0
count_of_desk (Some jobs) = btree_map_len jobs

abbrev pub open_at : List (BTreeMap ℕ SeenJob) → ℕ → ℕ
open_at desks d = count_of_desk (slice_get desks d)

abbrev pub open_in : List (BTreeMap ℕ SeenJob) → ℕ
open_in [] = 0
open_in (jobs ∷ desks) = btree_map_len jobs + open_in desks

-- each job is held under its own name
abbrev pub AreUnderNames : List (BTreeMap ℕ SeenJob) → Type 0
AreUnderNames desks = (id : JobId) (held : SeenJob) → held_job_at desks id ≡ Some held → held.job.id ≡ id

-- ---- changes

-- under this name this is held, and all else is as it was
pub record ChangesJob (old : List (BTreeMap ℕ SeenJob)) (id : JobId) (held : Option SeenJob)
    (new : List (BTreeMap ℕ SeenJob)) : Type 0 where
  pub here : held_job_at new id ≡ held
  pub others : (other : JobId) → other ≢ id → held_job_at new other ≡ held_job_at old other
  pub desks : length new ≡ length old
  pub other_desks : (d : ℕ) → d ≢ id.desk → open_at new d ≡ open_at old d

-- a job more
pub record HoldsJob (old : List (BTreeMap ℕ SeenJob)) (id : JobId) (held : SeenJob)
    (new : List (BTreeMap ℕ SeenJob)) : Type 0 where
  pub was_none : held_job_at old id ≡ None
  pub changes : ChangesJob old id (Some held) new
  pub desk : open_at new id.desk ≡ open_at old id.desk + 1
  pub all : open_in new ≡ open_in old + 1

-- a job fewer
pub record DropsJob (old : List (BTreeMap ℕ SeenJob)) (id : JobId) (held : SeenJob)
    (new : List (BTreeMap ℕ SeenJob)) : Type 0 where
  pub was : held_job_at old id ≡ Some held
  pub changes : ChangesJob old id None new
  pub desk : open_at new id.desk + 1 ≡ open_at old id.desk
  pub all : open_in new + 1 ≡ open_in old

-- no job is held
pub record IsFreshTable (desks : List (BTreeMap ℕ SeenJob)) : Type 0 where
  pub jobs : (id : JobId) → held_job_at desks id ≡ None
  pub each : (d : ℕ) → open_at desks d ≡ 0
  pub all : open_in desks ≡ 0

-- all is as it was
pub record IsSameTable (old new : List (BTreeMap ℕ SeenJob)) : Type 0 where
  pub jobs : (id : JobId) → held_job_at new id ≡ held_job_at old id
  pub desks : length new ≡ length old
  pub each : (d : ℕ) → open_at new d ≡ open_at old d
  pub all : open_in new ≡ open_in old

-- One look more at a board: its totals are those of the history that is then seen, a legal one of
-- its job that begins with all that was seen before.
pub record LooksOnce (old : Sight) (told : Progress) (new : Sight) : Type 0 where
  pub board : new.board ≡ old.board
  pub looks : new.looks ≡ old.looks + 1
  pub later : IsPrefix old.seen new.seen
  pub legal : IsHistoryOf old.board.job old.board.issued new.seen
  pub spent : told.spent ≡ spent_in (table_of new.seen)
  pub returned : told.returned ≡ returned_in (table_of new.seen)
  pub complete : IsTrue told.complete ↔ IsComplete (table_of new.seen)

-- a job is looked at, whose board is its own
pub record LooksAt (old : List (BTreeMap ℕ SeenJob)) (id : JobId) (held : SeenJob) (told : Progress)
    (new : List (BTreeMap ℕ SeenJob)) : Type 0 where
  pub later : Sight
  pub own : (held.sight.board.job ≡ id.number) × (held.sight.board.issued ≡ held.job.job.credit)
  pub seen : LooksOnce held.sight told later
  pub changes : ChangesJob old id (Some (record { job = held.job; sight = later })) new
  pub desk : open_at new id.desk ≡ open_at old id.desk
  pub all : open_in new ≡ open_in old

-- the progress of a job that is held under a name; nothing of no job
unfoldable pub looks_under : List (BTreeMap ℕ SeenJob) → JobId → Option SeenJob → Progress
    → List (BTreeMap ℕ SeenJob) → Type 0
looks_under old id (Some held) told new = LooksAt old id held told new
looks_under old id None told new =
    (told ≡ record { spent = 0; returned = 0; complete = false }) × (new ≡ old)

-- ---- limits

-- The most jobs that may be open in all, and of each desk. 0 allows any number.
pub record PoolLimits : Type 0 where
  pub all : ℕ
  pub each : List ℕ

abbrev pub limit_at : PoolLimits → ℕ → ℕ
limit_at limits d = slice_index_or limits.each d 0

-- so many are open as a limit allows, and one more may be
abbrev pub IsBelow : ℕ → ℕ → Type 0
IsBelow limit open_jobs = 1 ≤ limit → open_jobs < limit

-- a desk of the pool may have one job more
pub record HasRoom (limits : PoolLimits) (desks : List (BTreeMap ℕ SeenJob)) (d : ℕ) : Type 0 where
  pub known : d < length desks
  pub all : IsBelow limits.all (open_in desks)
  pub desk : IsBelow (limit_at limits d) (open_at desks d)

-- no limit is passed
abbrev pub KeepsLimits : PoolLimits → List (BTreeMap ℕ SeenJob) → Type 0
KeepsLimits limits desks = (1 ≤ limits.all → open_in desks ≤ limits.all)
    × ((d : ℕ) → 1 ≤ limit_at limits d → open_at desks d ≤ limit_at limits d)

-- ---- a start and a take

-- this very start is held
abbrev pub IsHeldJob : List (BTreeMap ℕ SeenJob) → PooledJob → Type 0
IsHeldJob desks job = (held : SeenJob) × (held_job_at desks job.id ≡ Some held)
    × (held.job.ticket ≡ job.ticket)

-- a job that was just started: nothing was seen of it but its opening
pub record IsFreshJob (ticket : ℕ) (id : JobId) (job : AdmittedJob) (held : SeenJob) : Type 0 where
  pub is : held.job ≡ record { ticket = ticket; id = id; job = job }
  pub seen : held.sight.seen ≡ Open id.number job.credit ∷ []
  pub looks : held.sight.looks ≡ 0

-- If there is room the job is held. A start is refused by 81 only where there is no room, no worker,
-- or a job of this name already, and by 99 for want of memory. Then nothing changes.
abbrev pub StartsJob : PoolLimits → Bool → ℕ → List (BTreeMap ℕ SeenJob) → JobId → AdmittedJob
    → Result (Unit {0}) ℕ → List (BTreeMap ℕ SeenJob) → Type 0
StartsJob limits has_workers ticket old id job (Ok _) new =
    HasRoom limits old id.desk × (has_workers ≡ true)
    × ((held : SeenJob) × IsFreshJob ticket id job held × HoldsJob old id held new)
StartsJob limits has_workers ticket old id job (Err code) new =
    (((code ≡ 81) × ((HasRoom limits old id.desk × (has_workers ≡ true) × (held_job_at old id ≡ None)) → ⊥))
    ⊎ (code ≡ 99))
    × IsSameTable old new

-- the numbers by which a start is refused
abbrev pub IsStartRefusal : ℕ → Type 0
IsStartRefusal code = (code ≡ 81) ⊎ (code ≡ 99)

-- A job that was held is given with an end of it, and is held no more.
abbrev pub TakesHeldJob : List (BTreeMap ℕ SeenJob) → Option (JobId × Result Report ℕ)
    → List (BTreeMap ℕ SeenJob) → Type 0
TakesHeldJob old (Some taken) new = (held : SeenJob) × IsJobEnd taken.0 held.job.job taken.1
    × DropsJob old taken.0 held new
TakesHeldJob old None new = new ≡ old
