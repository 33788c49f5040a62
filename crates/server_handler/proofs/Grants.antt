-- A tenant's first grant: it has spent nothing.
use Rattle.std.proofs.Common.{◌≡◌, ◌⊎◌, ◌+◌, ℕ, List, Option, None, Some, Bool, true, Result, Ok, Err, refl, sym, ap, ◌∙◌, inl, inr}
use Rattle.std.specs.Prelude.{is_ok}
use Rattle.accounts.specs.Ledgers.{GrantsMore, Ledger, account_at, account_in, granted_to, past_of, spent_by_jobs}
use Rattle.accounts.specs.declared.fault.DeskFault.{DeskFault}
use Rattle.accounts.specs.declared.jobs.JobEntry.{JobEntry}
use Rattle.accounts.specs.declared.tenants.Account.{Account}
use Rattle.server_state.specs.Changing.{SpentNothing}

-- who has an account was granted something
has_account : (jobs : List JobEntry) (past : ℕ) (name : List ℕ) (granted : Option ℕ) → is_ok (account_in jobs past name granted) ≡ true → granted ≡ None → ⊥
has_account jobs past name None is none = cc
has_account jobs past name (Some sum) is none = cc

-- what an account has spent
spent_in : (jobs : List JobEntry) (past : ℕ) (name : List ℕ) (granted : Option ℕ) (account : Account) → account_in jobs past name granted ≡ Ok account → account.spent ≡ past + spent_by_jobs jobs name
spent_in jobs past name None account is = absurd cc
spent_in jobs past name (Some sum) account is = cc

pub spent_nothing : (old new : Ledger) (name : List ℕ) (amount : ℕ) (before : Result Account DeskFault) (account : Account) → before ≡ account_at old name → account_at new name ≡ Ok account → GrantsMore old name amount new
    → (is_ok before ≡ true) ⊎ (account.spent ≡ 0) → SpentNothing old name
unfolding account_at
spent_nothing old new name amount before account was is more (inl known) none = absurd (has_account old.jobs (past_of old name) name (granted_to old name) (ap is_ok (sym was) ∙ known) none)
spent_nothing old new name amount before account was is more (inr zero) none =
    ap (λ (n : ℕ). n + spent_by_jobs old.jobs name) (sym (more.past name)) ∙ ap (λ (l : List JobEntry). past_of new name + spent_by_jobs l name) (sym more.jobs)
    ∙ sym (spent_in new.jobs (past_of new name) name (granted_to new name) account is) ∙ zero
