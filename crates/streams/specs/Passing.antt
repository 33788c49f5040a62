-- Finished jobs, passed from a runner to a desk.
use Rattle.std.specs.Prelude.{◌≡◌, ◌⊎◌, ℕ, Option, Some, None, Result}
use Rattle.credit_book.specs.declared.book.Report.{Report}
use Rattle.accounts.specs.Ledgers.{Ledger, Finishes, IsNotOpen}

-- a finished job is noted, or passed over where the desk doesn't have it open
abbrev pub Notes : Ledger → ℕ → Result Report ℕ → Ledger → Type 0
Notes old number outcome new =
    Finishes old number outcome new ⊎ (IsNotOpen old number × (new ≡ old))

-- jobs are taken and noted one after the other
pub data Taken {R : Type 0} (takes : R → Option (ℕ × Result Report ℕ) → R → Type 0) (desk : Ledger)
    (runner : R) : Ledger → R → Type 0 where
  none_yet : Taken takes desk runner desk runner
  one_more : (d : Ledger) (r : R) (number : ℕ) (outcome : Result Report ℕ) (s : R) (e : Ledger)
      → Taken takes desk runner d r → takes r (Some (number, outcome)) s → Notes d number outcome e
      → Taken takes desk runner e s

-- until none is left
pub record Passes {R : Type 0} (takes : R → Option (ℕ × Result Report ℕ) → R
    → Type 0) (desk : Ledger) (runner : R) (after : Ledger) (left : R) : Type 0 where
  pub last : R
  pub taken : Taken takes desk runner after last
  pub none_left : takes last None left
