-- What an account says of a submit.
use Rattle.std.proofs.Common.{◌≡◌, ℕ, List, Option, Some, None, Result, Ok, refl, sym, ◌∙◌}
use Rattle.accounts.specs.declared.tenants.Account.{Account}
use Rattle.accounts.specs.declared.jobs.JobEntry.{JobEntry}
use Rattle.accounts.specs.declared.fault.DeskFault.{DeskFault}
use Rattle.accounts.specs.Ledgers.{Ledger, HasBalance, account_at, account_in, granted_to, past_of}

not_granted : (jobs : List JobEntry) (past : ℕ) (name : List ℕ) (granted : Option ℕ) → ((a : Account) → account_in jobs past name granted ≡ Ok a → ⊥) → granted ≡ None
not_granted jobs past name None none = refl
not_granted jobs past name (Some amount) none = absurd (none _ refl)

-- a tenant without an account was granted nothing
pub no_grant : (ledger : Ledger) (name : List ℕ) (r : Result Account DeskFault) → r ≡ account_at ledger name → ((a : Account) → r ≡ Ok a → ⊥) → granted_to ledger name ≡ None
unfolding account_at
no_grant ledger name r is none = not_granted ledger.jobs (past_of ledger name) name (granted_to ledger name) (λ a found. none a (is ∙ found))

-- an account has its balance
pub has_balance : (ledger : Ledger) (name : List ℕ) (r : Result Account DeskFault) (a : Account) → r ≡ account_at ledger name → r ≡ Ok a → HasBalance ledger name a.balance
has_balance ledger name r a is found = record { account = a; is = sym is ∙ found; same = refl }
