-- A runner for one desk of many: each job has a number of its own at the runner that all share.
use Rattle.std.specs.Prelude.{◌≡◌, ◌≤◌, ◌<◌, ◌⊎◌, ◌^◌, ℕ, false, Option, None, Result, Err}
use Rattle.credit_book.specs.declared.book.Report.{Report}
use Rattle.credit_book.specs.declared.board.Progress.{Progress}
use Rattle.job_core.specs.Admitted.{AdmittedJob}
use Rattle.tenant_desks.specs.declared.placed_runner.PlacedRunner.{PlacedRunner}
use Rattle.tenant_desks.specs.Placing.{placed}

-- A job is started under its number at the shared runner. Where that number passes 64 bits, the
-- start is refused by 81, and nothing changes.
abbrev pub starts_placed : {R : Type 0} → (R → ℕ → AdmittedJob → Result (Unit {0}) ℕ → R → Type 0)
    → PlacedRunner R → ℕ → AdmittedJob → Result (Unit {0}) ℕ → PlacedRunner R → Type 0
starts_placed starts old number job result new =
    (((placed number old.place < 2 ^ 64)
    × starts old.runner (placed number old.place) job result new.runner)
    ⊎ ((2 ^ 64 ≤ placed number old.place) × (result ≡ Err 81) × (new.runner ≡ old.runner)))
    × (new.place ≡ old.place)

-- A look is one at the job's number at the shared runner. Nothing is seen where that number passes
-- 64 bits.
abbrev pub looks_placed : {R : Type 0} → (R → ℕ → Progress → R → Type 0) → PlacedRunner R → ℕ
    → Progress → PlacedRunner R → Type 0
looks_placed looks old number told new =
    (((placed number old.place < 2 ^ 64)
    × looks old.runner (placed number old.place) told new.runner)
    ⊎ ((2 ^ 64 ≤ placed number old.place)
    × (told ≡ record { spent = 0; returned = 0; complete = false }) × (new.runner ≡ old.runner)))
    × (new.place ≡ old.place)

-- the ends of jobs are taken from the shared runner alone
abbrev pub takes_placed : {R : Type 0} → PlacedRunner R → Option (ℕ × Result Report ℕ)
    → PlacedRunner R → Type 0
takes_placed old taken new = (taken ≡ None) × (new ≡ old)
