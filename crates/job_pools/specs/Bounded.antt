-- A bound on how many jobs are held at once.
use Rattle.std.specs.Prelude.{◌≡◌, ◌≤◌, ◌⊎◌, ℕ, Option, Result, Err}
use Rattle.credit_book.specs.declared.book.Report.{Report}
use Rattle.credit_book.specs.declared.board.Progress.{Progress}
use Rattle.job_core.specs.Admitted.{AdmittedJob}
use Rattle.job_pools.specs.declared.limited_runner.LimitedRunner.{LimitedRunner}

-- as many jobs are held as are allowed; 0 allows any number
abbrev pub IsFull : ℕ → ℕ → Type 0
IsFull limit held = (1 ≤ limit) × (limit ≤ held)

-- Where as many jobs are held as are allowed, a start is refused by 81, and nothing changes. Any
-- other start is the runner's own.
abbrev pub starts_within : {R : Type 0} → (R → ℕ) → (R → ℕ → AdmittedJob → Result (Unit {0}) ℕ → R
    → Type 0) → LimitedRunner R → ℕ → AdmittedJob → Result (Unit {0}) ℕ → LimitedRunner R → Type 0
starts_within held starts old number job result new =
    ((IsFull old.limit (held old.runner) × (result ≡ Err 81) × (new.runner ≡ old.runner))
    ⊎ ((IsFull old.limit (held old.runner) → ⊥) × starts old.runner number job result new.runner))
    × (new.limit ≡ old.limit)

-- looks and takes are the runner's own
abbrev pub looks_within : {R : Type 0} → (R → ℕ → Progress → R → Type 0) → LimitedRunner R → ℕ
    → Progress → LimitedRunner R → Type 0
looks_within looks old number told new =
    looks old.runner number told new.runner × (new.limit ≡ old.limit)

abbrev pub takes_within : {R : Type 0} → (R → Option (ℕ × Result Report ℕ) → R → Type 0)
    → LimitedRunner R → Option (ℕ × Result Report ℕ) → LimitedRunner R → Type 0
takes_within takes old taken new = takes old.runner taken new.runner × (new.limit ≡ old.limit)
