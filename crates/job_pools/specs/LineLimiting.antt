-- Limits by the line of a number: the numbers that leave the same remainder by 1,000.
use Rattle.std.specs.Prelude.{◌≡◌, ◌⊎◌, ◌+◌, ◌-◌, ◌%◌, ◌^◌, ℕ, List, Option, Some, None, Result, Ok, Err, slice_get, slice_index, slice_set}
use Rattle.job_pools.specs.Bounded.{IsFull}

-- what a host allows of each line: one limit for all, and those of their own, by line from 0 on
pub record LimitsByLine : Type 0 where
  pub all : ℕ
  pub own : List (Option ℕ)

-- its own limit, where a line has one
abbrev pub own_or : ℕ → Option (Option ℕ) → ℕ
own_or all (Some (Some own)) = own
own_or all (Some None) = all
own_or all None = all

-- the limit of a line; 0 allows any number
abbrev pub line_limit : LimitsByLine → ℕ → ℕ
line_limit limits line = own_or limits.all (slice_get limits.own line)

-- the line of a number
abbrev pub number_line : ℕ → ℕ
number_line number = number % 1000

-- As many jobs of the line are held as are allowed, or as can be counted.
abbrev pub IsLineFull : LimitsByLine → List ℕ → ℕ → Type 0
IsLineFull limits counts line =
    IsFull (line_limit limits line) (slice_index counts line)
    ⊎ (slice_index counts line ≡ 2 ^ 64 - 1)

-- the line counts one more, or one fewer, and no other changes
abbrev pub one_more_counted : List ℕ → ℕ → List ℕ
one_more_counted counts line = slice_set counts line (slice_index counts line + 1)

abbrev pub one_fewer_counted : List ℕ → ℕ → List ℕ
one_fewer_counted counts line = slice_set counts line (slice_index counts line - 1)

-- the counts behind a start: one job more where it was answered by Ok
abbrev pub counts_started : List ℕ → ℕ → Result (Unit {0}) ℕ → List ℕ
counts_started counts number (Ok _) = one_more_counted counts (number_line number)
counts_started counts number (Err code) = counts

-- the counts behind a take: one job fewer where one was given
abbrev pub counts_taken : {E : Type 0} → List ℕ → Option (ℕ × E) → List ℕ
counts_taken counts (Some taken) = one_fewer_counted counts (number_line taken.0)
counts_taken counts None = counts
