-- The open jobs of recovered desks are started again.
use Rattle.std.specs.Prelude.{◌≡◌, ℕ, List, [], ◌∷◌, ◌++◌, length, Result}
use Rattle.accounts.specs.Ledgers.{Ledger}
use Rattle.job_core.specs.Admitted.{AdmittedJob}
use Rattle.desk_journal.specs.declared.journaled_desk.OpenJob.{OpenJob}
use Rattle.desk_recorder.specs.Restarts.{RefusesStart, StartsEach}
use Rattle.tenant_desks.specs.PlacedRunners.{starts_placed}
use Rattle.tenant_desks.specs.Tenancies.{ChangesAt}
use Rattle.tenant_desks.specs.Answering.{for_place}

-- Desk after desk, from the first on, each of its open jobs is started once and in order, under its
-- number at the runner that all share.
pub data RestartsEach {R : Type 0} (starts : R → ℕ → AdmittedJob → Result (Unit {0}) ℕ → R → Type 0)
    (desks : List Ledger) (runner : R) : List (List OpenJob) → List Ledger → R → Type 0 where
  none_yet : RestartsEach starts desks runner [] desks runner
  one_more : (before : List (List OpenJob)) (ds : List Ledger) (r : R) (jobs : List OpenJob)
      (es : List Ledger) (s : R) → RestartsEach starts desks runner before ds r
      → ChangesAt (length before)
      (λ d e. StartsEach (starts_placed starts) d (for_place (length before) r) jobs e
      (for_place (length before) s))
      ds es
      → RestartsEach starts desks runner (before ++ jobs ∷ []) es s

-- The open jobs of the first so many desks were started, and one of the next desk was refused by this
-- number. None behind it was started.
pub record RefusesStartOf {R : Type 0}
    (starts : R → ℕ → AdmittedJob → Result (Unit {0}) ℕ → R → Type 0) (desks : List Ledger)
    (runner : R) (held : List (List OpenJob)) (code : ℕ) (left : R) : Type 0 where
  pub before : List (List OpenJob)
  pub jobs : List OpenJob
  pub after : List (List OpenJob)
  pub is : held ≡ before ++ jobs ∷ after
  pub middle : R
  pub started : RestartsEach starts desks runner before desks middle
  pub refused : (desk : Ledger) → RefusesStart (starts_placed starts) desk
      (for_place (length before) middle) jobs code (for_place (length before) left)
