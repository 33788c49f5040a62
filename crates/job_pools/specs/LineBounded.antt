-- A bound on how many jobs are held of each line of numbers.
use Rattle.std.specs.Prelude.{◌≡◌, ◌⊎◌, ℕ, Option, Result, Err, replicate}
use Rattle.credit_book.specs.declared.book.Report.{Report}
use Rattle.credit_book.specs.declared.board.Progress.{Progress}
use Rattle.job_core.specs.Admitted.{AdmittedJob}
use Rattle.job_pools.specs.LineLimiting.{IsLineFull, LimitsByLine, counts_started, counts_taken, number_line}
use Rattle.job_pools.specs.declared.line_limited_runner.LineLimitedRunner.{LineLimitedRunner}

-- a runner that holds no job, with these limits
abbrev pub new_by_line : {R : Type 0} → LimitsByLine → R → LineLimitedRunner R
new_by_line limits runner =
    record { runner = runner; limits = limits; counts = replicate 1000 0 }

-- Where as many jobs of the number's line are held as it allows, a start is refused by 81, and
-- nothing changes. Any other start is the runner's own, and counts where it is answered by Ok.
abbrev pub starts_by_line : {R : Type 0} → (R → ℕ → AdmittedJob → Result (Unit {0}) ℕ → R
    → Type 0) → LineLimitedRunner R → ℕ → AdmittedJob → Result (Unit {0}) ℕ → LineLimitedRunner R
    → Type 0
starts_by_line starts old number job result new =
    ((IsLineFull old.limits old.counts (number_line number) × (result ≡ Err 81)
    × (new.runner ≡ old.runner))
    ⊎ ((IsLineFull old.limits old.counts (number_line number) → ⊥)
    × starts old.runner number job result new.runner))
    × (new.counts ≡ counts_started old.counts number result) × (new.limits ≡ old.limits)

-- looks and takes are the runner's own, and what is taken counts no more
abbrev pub looks_by_line : {R : Type 0} → (R → ℕ → Progress → R → Type 0) → LineLimitedRunner R
    → ℕ → Progress → LineLimitedRunner R → Type 0
looks_by_line looks old number told new =
    looks old.runner number told new.runner × (new.counts ≡ old.counts)
    × (new.limits ≡ old.limits)

abbrev pub takes_by_line : {R : Type 0} → (R → Option (ℕ × Result Report ℕ) → R → Type 0)
    → LineLimitedRunner R → Option (ℕ × Result Report ℕ) → LineLimitedRunner R → Type 0
takes_by_line takes old taken new =
    takes old.runner taken new.runner × (new.counts ≡ counts_taken old.counts taken)
    × (new.limits ≡ old.limits)
