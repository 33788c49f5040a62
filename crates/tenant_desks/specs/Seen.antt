-- The runner of all jobs, as the desk at one place sees it: between its own steps others may have
-- theirs.
use Rattle.std.specs.Prelude.{◌≢◌, ◌<◌, ℕ, List, Option, Some, None, Result}
use Rattle.credit_book.specs.declared.book.Report.{Report}
use Rattle.credit_book.specs.declared.board.Progress.{Progress}
use Rattle.job_core.specs.Admitted.{AdmittedJob}
use Rattle.accounts.specs.declared.keep_limits.KeepLimits.{KeepLimits}
use Rattle.accounts.specs.Ledgers.{Ledger, KeepsWithin}
use Rattle.streams.specs.Answering.{Answers}
use Rattle.shared_desk.specs.Histories.{Query}
use Rattle.tenant_desks.specs.Placing.{placed}
use Rattle.tenant_desks.specs.PlacedRunners.{starts_placed, looks_placed}
use Rattle.tenant_desks.specs.Answering.{for_place}

module _ {R : Type 0} (starts : R → ℕ → AdmittedJob → Result (Unit {0}) ℕ → R → Type 0)
    (looks : R → ℕ → Progress → R → Type 0) (takes : R → Option (ℕ × Result Report ℕ) → R → Type 0)
    (place : ℕ) where
  -- steps of the runner for other desks, and takes that give no end
  pub data OthersSteps (r : R) : R → Type 0 where
    no_step : OthersSteps r r
    one_start : (s t : R) (number other : ℕ) (job : AdmittedJob) (outcome : Result (Unit {0}) ℕ)
        → OthersSteps r s → other ≢ place → other < 1000
        → starts s (placed number other) job outcome t → OthersSteps r t
    one_look : (s t : R) (number other : ℕ) (told : Progress)
        → OthersSteps r s → other ≢ place → other < 1000
        → looks s (placed number other) told t → OthersSteps r t
    one_end : (s t : R) (number other : ℕ) (outcome : Result Report ℕ)
        → OthersSteps r s → other ≢ place → other < 1000
        → takes s (Some (placed number other, outcome)) t → OthersSteps r t
    no_end : (s t : R) → OthersSteps r s → takes s None t → OthersSteps r t

  -- a start, a look and a take of the desk, behind such steps
  abbrev pub starts_seen : R → ℕ → AdmittedJob → Result (Unit {0}) ℕ → R → Type 0
  starts_seen old number job outcome new =
      (mid : R) × OthersSteps old mid
      × starts_placed starts (for_place place mid) number job outcome (for_place place new)

  abbrev pub looks_seen : R → ℕ → Progress → R → Type 0
  looks_seen old number told new =
      (mid : R) × OthersSteps old mid
      × looks_placed looks (for_place place mid) number told (for_place place new)

  abbrev pub takes_seen : R → Option (ℕ × Result Report ℕ) → R → Type 0
  takes_seen old (Some taken) new =
      (mid : R) × OthersSteps old mid × takes mid (Some (placed taken.0 place, taken.1)) new
  takes_seen old None new = (mid : R) × OthersSteps old mid × takes mid None new

  -- the answers of a plain desk by this runner, after each of which the desk forgets
  abbrev pub answers_seen : KeepLimits → Ledger × R → Query → List ℕ → Ledger × R
      → Type 0
  answers_seen keep s query reply t =
      (mid : Ledger) × Answers starts_seen looks_seen takes_seen s.0 s.1 query.asked reply mid t.1
      × KeepsWithin keep mid t.0
