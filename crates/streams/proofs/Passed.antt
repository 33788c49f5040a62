-- What is passed from the runner to the desk.
use Rattle.std.proofs.Common.{◌≡◌, ℕ, Result, Ok, Err, OnOk, OnErr, IfErr, inl, inr}
use Rattle.credit_book.specs.declared.book.Report.{Report}
use Rattle.accounts.specs.declared.fault.DeskFault.{DeskFault}
use Rattle.accounts.specs.declared.fault.DeskFault.TheVariants as fault
use Rattle.accounts.specs.Ledgers.{Ledger, Finishes, IsNotOpen}
use Rattle.streams.specs.Passing.{Notes}

pub noted : {T : Type 0} (r : Result T DeskFault) (old : Ledger) (number : ℕ) (outcome : Result Report ℕ) (new : Ledger) → OnOk r (Finishes old number outcome new) → IfErr r (λ e. (e ≡ fault.NoJob) × IsNotOpen old number) → OnErr r (new ≡ old) → Notes old number outcome new
noted (Ok x) old number outcome new finished refused unchanged = inl finished
noted (Err e) old number outcome new finished refused unchanged = inr (refused.1, unchanged)
