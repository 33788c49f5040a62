-- The accounts of a desk, as they are kept.
use Rattle.std.specs.Prelude.{ℕ, List, String, string_bytes}
use Rattle.accounts.specs.declared.kept_accounts.KeptAccount.{KeptAccount}
use Rattle.accounts.specs.declared.tenants.Sums.{Sums}

-- a tenant's name, the sum of its grants, and what its jobs spent
abbrev pub kept_as : KeptAccount → List ℕ × ℕ × ℕ
kept_as account = (string_bytes account.tenant, account.granted, account.spent)

-- the same, as the desk has it
abbrev pub kept_from_sums : {Y : Type 0} → String Y × Sums → List ℕ × ℕ × ℕ
kept_from_sums entry = (string_bytes entry.0, entry.1.granted, entry.1.spent)
