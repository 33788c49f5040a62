-- The credit that tenants are granted at first, at desks that may have a history.
use Rattle.std.specs.Prelude.{◌≡◌, ℕ, zero, suc, List, length, slice_get, Option, Some, None}
use Rattle.accounts.specs.Ledgers.{Ledger, GrantsMore, granted_to}

-- the credit of a tenant to which so much was granted before, if anything was
abbrev pub IsFirstGrant : List ℕ → Option ℕ → Option ℕ → Ledger → Ledger → Type 0
IsFirstGrant name (Some credit) None old new = GrantsMore old name credit new
IsFirstGrant name (Some credit) (Some granted) old new = new ≡ old
IsFirstGrant name None granted old new = new ≡ old

-- A tenant with a first credit is granted it once, where nothing was granted to it before.
abbrev pub HasFirstCredit : List ℕ → Option ℕ → Ledger → Ledger → Type 0
HasFirstCredit name credit old new = IsFirstGrant name credit (granted_to old name) old new

-- a desk of this tenant, or of nobody that is named
abbrev pub IsCredited : Option (List ℕ × Option ℕ) → Ledger → Ledger → Type 0
IsCredited (Some tenant) old new = HasFirstCredit tenant.0 tenant.1 old new
IsCredited None old new = new ≡ old

-- The desk of everybody else comes first, and behind it those of these tenants, in order.
abbrev pub IsCreditedAt : List (List ℕ × Option ℕ) → ℕ → Ledger → Ledger → Type 0
IsCreditedAt tenants zero old new = new ≡ old
IsCreditedAt tenants (suc n) old new = IsCredited (slice_get tenants n) old new

-- Each of these tenants has its first credit at its own desk, and no other desk changes.
pub record AreCredited (tenants : List (List ℕ × Option ℕ)) (old new : List Ledger) : Type 0 where
  pub count : length new ≡ length old
  pub each : (place : ℕ) (before after : Ledger) → slice_get old place ≡ Some before
      → slice_get new place ≡ Some after → IsCreditedAt tenants place before after
