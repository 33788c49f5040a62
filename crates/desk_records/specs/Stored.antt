-- Records that the tables hold.
use Rattle.std.specs.Prelude.{ℤ, ◌≡◌, All, List, map, ⊤}
use Rattle.sqlite_trees.specs.Tree.{Trees}
use Rattle.desk_store.specs.Loading.{HasDamage}
use Rattle.desk_store.specs.Tables.{tree_of}
use Rattle.desk_store.specs.declared.fault.LoadFault.{LoadFault}
use Rattle.desk_store.specs.declared.fault.LoadFault.TheVariants.{Store, Damaged}
use Rattle.desk_store.specs.declared.table.StoreTable.{StoreTable}
use Rattle.desk_store.specs.declared.table.StoreTable.TheVariants.{Tenant, Job, Outcome, Desk, Key}
use Rattle.desk_records.specs.Records.{IsNarrowDesk, IsNarrowJob, IsNarrowKey, IsNarrowOutcome, IsNarrowTenant, desk_row, key_row, outcome_row, job_row, tenant_row}
use Rattle.desk_records.specs.declared.stored_desk.StoredDesk.{StoredDesk}
use Rattle.desk_records.specs.declared.stored_job.StoredJob.{StoredJob}
use Rattle.desk_records.specs.declared.stored_key.StoredKey.{StoredKey}
use Rattle.desk_records.specs.declared.stored_outcome.StoredOutcome.{StoredOutcome}
use Rattle.desk_records.specs.declared.stored_tenant.StoredTenant.{StoredTenant}

-- all records, those of each table in the order of their rows
pub record Ledgers : Type 0 where
  pub tenants : List StoredTenant
  pub jobs : List StoredJob
  pub outcomes : List StoredOutcome
  pub desks : List StoredDesk
  pub keys : List StoredKey

-- the tables hold these records, and nothing else
pub record IsStored (db : Trees) (l : Ledgers) : Type 0 where
  pub tenants : db (tree_of Tenant) ≡ map tenant_row l.tenants
  pub jobs : db (tree_of Job) ≡ map job_row l.jobs
  pub outcomes : db (tree_of Outcome) ≡ map outcome_row l.outcomes
  pub desks : db (tree_of Desk) ≡ map desk_row l.desks
  pub keys : db (tree_of Key) ≡ map key_row l.keys

-- all numbers are within what a row holds
pub record AreNarrow (l : Ledgers) : Type 0 where
  pub tenants : All IsNarrowTenant l.tenants
  pub jobs : All IsNarrowJob l.jobs
  pub outcomes : All IsNarrowOutcome l.outcomes
  pub desks : All IsNarrowDesk l.desks
  pub keys : All IsNarrowKey l.keys

-- the row of this table with this key is no record's
abbrev pub IsNobodys : Trees → StoreTable → ℤ → Type 0
IsNobodys db Tenant key = HasDamage tenant_row IsNarrowTenant (db (tree_of Tenant)) key
IsNobodys db Job key = HasDamage job_row IsNarrowJob (db (tree_of Job)) key
IsNobodys db Outcome key = HasDamage outcome_row IsNarrowOutcome (db (tree_of Outcome)) key
IsNobodys db Desk key = HasDamage desk_row IsNarrowDesk (db (tree_of Desk)) key
IsNobodys db Key key = HasDamage key_row IsNarrowKey (db (tree_of Key)) key

-- no records are stored so
abbrev pub HoldsNone : Trees → Type 0
HoldsNone db = (l : Ledgers) → AreNarrow l → IsStored db l → ⊥

-- damage is told of a row that is no record's, and a fault of the store says nothing of the rows
abbrev pub Explains : Trees → LoadFault → Type 0
Explains db (Store error) = ⊤
Explains db (Damaged table key) = IsNobodys db table key × HoldsNone db
