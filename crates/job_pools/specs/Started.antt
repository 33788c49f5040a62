-- Jobs that were started, and those that a pool holds.
use Rattle.std.specs.Prelude.{◌≡◌, ◌↔◌, ◌≤◌, ◌+◌, ◌%◌, ◌==◌, ℕ, List, [], ◌∷◌, Option, Some, None, option_map, unwrap_or, IsTrue, if◌then◌else◌}
use mathlib.Core.List.{IsPrefix}
use Rattle.std.specs.BTreeMap as tree
use Rattle.std.specs.BTreeMap.{BTreeMap, btree_map_len}
use Rattle.std.specs.Ordering.{nat_cmp}
use Rattle.credit_book.specs.Boards.{Sight}
use Rattle.credit_book.specs.History.{IsHistoryOf, IsComplete, table_of, spent_in, returned_in}
use Rattle.credit_book.specs.declared.board.Progress.{Progress}
use Rattle.job_core.specs.Admitted.{AdmittedJob}
use Rattle.job_pools.specs.declared.job_seats.StartedJob.{StartedJob}
use Rattle.job_pools.specs.Holding.{HeldJob}

-- the job that was started under a number
abbrev pub started_at : ℕ → List StartedJob → Option AdmittedJob
started_at n [] = None
started_at n (s ∷ ss) = if n == s.number then Some s.job else started_at n ss

-- Numbers that leave the same remainder by 1,000 are a line. Where a line goes on from a number, no job
-- was started under that or a later number of it.
abbrev pub NoneFrom : (ℕ → Option ℕ) → List StartedJob → Type 0
NoneFrom nexts started =
    (n : ℕ) → unwrap_or (nexts (n % 1000)) 0 ≤ n → started_at n started ≡ None

-- a job that was started, with what was seen of its board
abbrev pub held_of : Option AdmittedJob → ℕ → Option Sight → Option HeldJob
held_of None n sight = None
held_of (Some job) n None = None
held_of (Some job) n (Some sight) = Some (record { number = n; job = job; sight = sight })

-- what a pool holds under a number, by the jobs that were started and the boards that it watches
abbrev pub pooled_at : List StartedJob × BTreeMap ℕ Sight → ℕ → Option HeldJob
pooled_at p n = held_of (started_at n p.0) n (tree.get nat_cmp p.1 n)

-- a pool holds a job under this number
abbrev pub IsPooled : List StartedJob × BTreeMap ℕ Sight → ℕ → Type 0
IsPooled p n = (held : HeldJob) × (pooled_at p n ≡ Some held)

abbrev pub pooled_count : List StartedJob × BTreeMap ℕ Sight → ℕ
pooled_count p = btree_map_len p.1

-- each board that is watched is that of the job that was started under its number
abbrev pub AreWatched : List StartedJob → (ℕ → Option Sight) → Type 0
AreWatched started boards = (n : ℕ) (sight : Sight) → boards n ≡ Some sight
    → (option_map (λ job. job.credit) (started_at n started) ≡ Some sight.board.issued)
    × (sight.board.job ≡ n)

-- One look more at a board: its totals are those of the history that is then seen, a legal one of
-- its job that begins with all that was seen before.
pub record IsLook (old : Sight) (told : Progress) (new : Sight) : Type 0 where
  pub board : new.board ≡ old.board
  pub looks : new.looks ≡ old.looks + 1
  pub later : IsPrefix old.seen new.seen
  pub legal : IsHistoryOf old.board.job old.board.issued new.seen
  pub spent : told.spent ≡ spent_in (table_of new.seen)
  pub returned : told.returned ≡ returned_in (table_of new.seen)
  pub complete : IsTrue told.complete ↔ IsComplete (table_of new.seen)
