-- The rows of tenants: the number of a row is its place, and no tenant has two.
use Rattle.std.specs.Prelude.{ℕ, ◌≡◌, ◌+◌, List, find, slice_get, Some}
use Rattle.desk_records.specs.declared.stored_outcome.StoredResult.{StoredResult}
use Rattle.desk_records.specs.declared.stored_outcome.StoredResult.TheVariants.{Failed, Reported}
use Rattle.desk_records.specs.declared.stored_tenant.StoredTenant.{StoredTenant}
use Rattle.ledger_records.specs.LedgerRecords.{HasItsNumber, is_tenant}

pub record AreTenantRows (rows : List StoredTenant) : Type 0 where
  pub numbered : (place : ℕ) (t : StoredTenant) → slice_get rows place ≡ Some t → t.number ≡ place
  pub apart : (i j : ℕ) (a b : StoredTenant) → slice_get rows i ≡ Some a → slice_get rows j ≡ Some b
      → a.desk ≡ b.desk → a.name ≡ b.name → i ≡ j

-- what an outcome spent
abbrev pub spent_of_result : StoredResult → ℕ
spent_of_result (Failed code) = 0
spent_of_result (Reported r) = r.spent

-- the row of the desk's tenant of this name, with so much more that is spent
pub record IsRowOfCost (desk : ℕ) (rows : List StoredTenant) (name : List ℕ) (cost : ℕ)
    (t : StoredTenant) : Type 0 where
  pub row : StoredTenant
  pub had : find (is_tenant desk name) rows ≡ Some row
  pub is : t ≡ record row { spent = row.spent + cost }
  pub numbered : HasItsNumber rows t
