-- A handler that keeps the last jobs' reports.
use Rattle.std.specs.Prelude.{◌≡◌, ℕ, List, Option, Result}
use Rattle.credit_book.specs.declared.book.Report.{Report}
use Rattle.credit_book.specs.declared.board.Progress.{Progress}
use Rattle.job_core.specs.Admitted.{AdmittedJob}
use Rattle.accounts.specs.Ledgers.{Ledger, KeepsWithin}
use Rattle.sessions.specs.Grammar.{Asked}
use Rattle.streams.specs.Answering.{Answers}
use Rattle.job_server.specs.declared.keeping_handler.KeepingHandler.{KeepingHandler}

-- what a desk and a runner answer to a frame
abbrev pub answers_by : {R : Type 0} → (R → ℕ → AdmittedJob → Result (Unit {0}) ℕ → R → Type 0)
    → (R → ℕ → Progress → R → Type 0) → (R → Option (ℕ × Result Report ℕ) → R → Type 0) → Ledger × R
    → Result Asked ℕ → List ℕ → Ledger × R → Type 0
answers_by starts looks takes =
    λ s query reply t. Answers starts looks takes s.0 s.1 query reply t.0 t.1

-- A frame is answered as by the desk and the runner, and then the desk forgets.
abbrev pub answers_keeping : {R : Type 0} → (R → ℕ → AdmittedJob → Result (Unit {0}) ℕ → R → Type 0)
    → (R → ℕ → Progress → R → Type 0) → (R → Option (ℕ × Result Report ℕ) → R → Type 0)
    → Ledger × KeepingHandler R → Result Asked ℕ → List ℕ → Ledger × KeepingHandler R → Type 0
answers_keeping starts looks takes s query reply t =
    ((mid : Ledger) × answers_by starts looks takes (s.0, s.1.runner) query reply (mid, t.1.runner)
    × KeepsWithin s.1.keep mid t.0) × (t.1.keep ≡ s.1.keep)
