-- Rows that no records have.
use Rattle.std.specs.Prelude.{ℤ, ◌≡◌, List, ◌∷◌, ◌++◌, ⊤}
use Rattle.sqlite_value.specs.Order.{Row, column}
use Rattle.sqlite_rules.specs.Edit.{id_in}
use Rattle.sqlite_trees.specs.declared.error.StoreError.{StoreError}
use Rattle.desk_store.specs.declared.table.StoreTable.{StoreTable}
use Rattle.desk_store.specs.declared.fault.LoadFault.{LoadFault}
use Rattle.desk_store.specs.declared.fault.LoadFault.TheVariants.{Store, Damaged}

-- one of the rows has this key, and is the row of no record
pub record HasDamage {R : Type 0} (row : R → Row) (is_narrow : R → Type 0) (rows : List Row)
    (key : ℤ) : Type 0 where
  pub here : Row
  pub keyed : key ≡ id_in (column here 0)
  pub before : List Row
  pub behind : List Row
  pub among : rows ≡ before ++ here ∷ behind
  pub nobody : (it : R) → is_narrow it → row it ≡ here → ⊥

-- a fault of the store says nothing of the rows
abbrev pub IsDamage : {R : Type 0} → StoreTable → (R → Row) → (R → Type 0) → List Row → LoadFault
    → Type 0
IsDamage of row is_narrow rows (Store error) = ⊤
IsDamage of row is_narrow rows (Damaged table key) =
    (table ≡ of) × HasDamage row is_narrow rows key

-- so fails the store; rows that no records have are no fault of it
abbrev pub IfStoreFault : (StoreError → Type 0) → LoadFault → Type 0
IfStoreFault cause (Store error) = cause error
IfStoreFault cause (Damaged table key) = ⊤
