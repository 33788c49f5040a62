-- One job that is held, and how jobs are found.
use Rattle.std.specs.Prelude.{◌≡◌, ◌↔◌, ◌+◌, ℕ, [], ◌∷◌, Option, Some, None, option_map, IsTrue}
use mathlib.Core.List.{IsPrefix}
use Rattle.credit_book.specs.Boards.{Sight}
use Rattle.credit_book.specs.History.{IsHistoryOf, IsComplete, table_of, spent_in, returned_in}
use Rattle.credit_book.specs.declared.board.Progress.{Progress}
use Rattle.credit_book.specs.declared.event.Event.TheVariants.{Open}
use Rattle.job_core.specs.Admitted.{AdmittedJob}

-- its number, the job, and what was seen of its board so far
pub record HeldJob : Type 0 where
  pub number : ℕ
  pub job : AdmittedJob
  pub sight : Sight

-- a job that was just started: nothing was seen of it but its opening
pub record IsFresh (number : ℕ) (job : AdmittedJob) (held : HeldJob) : Type 0 where
  pub numbered : held.number ≡ number
  pub given : held.job ≡ job
  pub seen : held.sight.seen ≡ Open number job.credit ∷ []
  pub looks : held.sight.looks ≡ 0

-- One look more: its totals are those of the history that is then seen, a legal one of this job
-- that begins with all that was seen before.
pub record IsSeen (old : HeldJob) (told : Progress) (new : HeldJob) : Type 0 where
  pub number : new.number ≡ old.number
  pub job : new.job ≡ old.job
  pub looks : new.sight.looks ≡ old.sight.looks + 1
  pub later : IsPrefix old.sight.seen new.sight.seen
  pub legal : IsHistoryOf old.number old.job.credit new.sight.seen
  pub spent : told.spent ≡ spent_in (table_of new.sight.seen)
  pub returned : told.returned ≡ returned_in (table_of new.sight.seen)
  pub complete : IsTrue told.complete ↔ IsComplete (table_of new.sight.seen)

-- each key that a number has is that of the job of this number
abbrev pub AreKept : (ℕ → Option ℕ) → (ℕ → Option HeldJob) → Type 0
AreKept keys jobs = (n key : ℕ) → keys n ≡ Some key
    → option_map (λ held. held.number) (jobs key) ≡ Some n

-- the job of a number, by its key
abbrev pub job_by : (ℕ → Option HeldJob) → Option ℕ → Option HeldJob
job_by jobs None = None
job_by jobs (Some key) = jobs key
