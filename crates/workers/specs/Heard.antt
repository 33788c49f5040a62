-- What a gate is told of the tasks that run.
use Rattle.std.specs.Prelude.{◌≡◌, ℕ, All, true}
use Rattle.credit_book.specs.declared.book.Report.{Report}
use Rattle.credit_book.specs.declared.event.TaskEnd.{TaskEnd}

-- the gate was told that the task of this number is about to run, and that it has ended
pub record HasHeard {G : Type 0} (begins ends : G → ℕ → Type 0) (gate : G) (number : ℕ) : Type 0
  where
    pub begun : begins gate number
    pub ended : ends gate number

-- the gate was told so of each task of the report that ran
abbrev pub HasHeardAll : {G : Type 0} → (G → ℕ → Type 0) → (G → ℕ → Type 0) → G → Report → Type 0
HasHeardAll begins ends gate report =
    All (λ (e : TaskEnd). e.ran ≡ true → HasHeard begins ends gate e.number) report.tasks.items
