-- The rows that a store shows, and the effect of each call.
use Rattle.std.specs.Prelude.{ℕ, ◌≡◌, ◌⊎◌, false, IsTrue, ⊤}
use Rattle.sqlite_disk.specs.Disk.{MoreFaults}
use Rattle.sqlite_trees.specs.declared.store.Store.{Ghosts}
use Rattle.sqlite_trees.specs.declared.store.Shape.TheVariants.{Table as TableTree}
use Rattle.sqlite_trees.specs.Tree.{Trees}
use Rattle.sqlite_trees.specs.View.{View, IsClean, IsQuiet, IsStorableRow, KeepsCommitted}
use Rattle.sqlite_trees.specs.declared.error.StoreError.{StoreError}
use Rattle.sqlite_trees.specs.declared.error.StoreError.TheVariants.{OutOfMemory, Io, Corrupt, Full, Broken, Unstorable}
use Rattle.sqlite_value.specs.Order.{Row}
use Rattle.sqlite_schema.specs.declared.schema.Schema.{Schema}
use Rattle.sqlite_catalog.specs.Listing.{IsSound}
use Rattle.sqlite.specs.Held.{Held}
use Rattle.desk_store.specs.declared.table.StoreTable.{StoreTable}
use Rattle.desk_store.specs.Layout.{AreStoreTrees, IsStoreSchema}
use Rattle.desk_store.specs.Tables.{tree_of}

-- the batch sees a database with these tables, and a crash leaves one
pub record IsDatabase (v : View) (recovers : Trees → Type 0) : Type 0 where
  pub schema : Schema
  pub ours : IsStoreSchema schema
  pub now : IsTrue v.is_open → IsSound schema v.trees
  pub found : (db : Trees) → recovers db → IsSound schema db

-- a store of rows keeps this true of the store below it
pub record IsRowStore (v : View) (recovers : Trees → Type 0) : Type 0 where
  pub shaped : IsClean v → (t : StoreTable) → v.shape (tree_of t) ≡ TableTree
  pub unaltered : IsClean v → v.shape ≡ v.committed_shape
  pub mended : IsTrue v.is_open → v.is_broken ≡ false
  pub numbered : IsClean v → IsTrue v.is_numbered
  pub obeys : IsClean v → IsDatabase v recovers

-- unlike a rollback's, this leaves the batch as it is
abbrev pub KeepsCommit : View → View → Type 0
KeepsCommit old new = KeepsCommitted (record old { marks = new.marks }) new

-- a file whose columns are so can hold the row
abbrev pub CanStore : (ℕ → ℕ) → StoreTable → Row → Type 0
CanStore reals table row = IsStorableRow (reals (tree_of table)) row

module _ {S : Type 0} (g : Ghosts S) where
  -- the rows as the batch sees them, by the numbers of their tables
  abbrev pub now_in : S → Trees
  now_in s = (g.view s).trees

  -- and as the last commit left them
  abbrev pub kept_in : S → Trees
  kept_in s = (g.view s).committed

  -- for each table, a bit for each of its columns of numbers with a fraction
  abbrev pub reals_in : S → ℕ → ℕ
  reals_in s = (g.view s).reals

  -- no wrong answer of the disk was taken as true
  abbrev pub IsHonest : S → Type 0
  IsHonest s = IsClean (g.view s)

  abbrev pub IsStoreOpen : S → Type 0
  IsStoreOpen s = IsTrue (g.view s).is_open

  -- no fault is forgotten, a crash leaves nothing that it could not leave before, and only a fault
  -- shuts the store
  abbrev pub IsCalm : S → S → Type 0
  IsCalm = IsQuiet g.view g.faults g.recovers g.is_shielded

  -- the batch sees these rows, and nothing was committed
  pub record ChangesBatch (old new : S) (rows : Trees) : Type 0 where
    pub was_open : IsStoreOpen old
    pub is_open : IsStoreOpen new
    pub now_is : now_in new ≡ rows
    pub kept_is : kept_in new ≡ kept_in old
    pub reals_are : reals_in new ≡ reals_in old

  -- the batch is gone, and the last commit stands, unless the store is shut
  pub record IsUndone (old new : S) : Type 0 where
    pub was_open : IsStoreOpen new → IsStoreOpen old
    pub now_is : IsStoreOpen new → now_in new ≡ kept_in old
    pub kept_is : IsStoreOpen new → kept_in new ≡ kept_in old

  -- the last commit is now what the batch saw
  pub record CommitsBatch (old new : S) : Type 0 where
    pub was_open : IsStoreOpen old
    pub is_open : IsStoreOpen new
    pub now_is : now_in new ≡ now_in old
    pub kept_is : kept_in new ≡ now_in old

  -- A call fails where memory is wanting, where the disk fails or refuses meanwhile, where the
  -- store was shut, or where what it is given can't be stored.
  abbrev pub FailsFor : Type 0 → S → S → StoreError → Type 0
  FailsFor unstorable old new OutOfMemory = ⊤
  FailsFor unstorable old new Io = MoreFaults (g.faults old) (g.faults new)
  FailsFor unstorable old new Corrupt = MoreFaults (g.faults old) (g.faults new)
  FailsFor unstorable old new Full = MoreFaults (g.faults old) (g.faults new)
  FailsFor unstorable old new Broken = IsStoreOpen old → ⊥
  FailsFor unstorable old new Unstorable = unstorable

  -- No rows are over this connection: a transaction is under way, its schema isn't a store's, or
  -- its store is shut at the end of its transaction, or lacks a table.
  abbrev pub IsNoStore : Held S → Type 0
  IsNoStore conn =
      (IsTrue conn.in_transaction ⊎ (IsStoreSchema conn.schema → ⊥))
      ⊎ ((left : S) × IsCalm conn.store left
      × (IsTrue (g.view left).is_broken ⊎ (AreStoreTrees (g.view left).shape → ⊥)))

  -- no batch is under way: it sees the last commit
  abbrev pub IsBetween : S → Type 0
  IsBetween s = IsStoreOpen s → now_in s ≡ kept_in s

  -- a crash leaves what it could leave before, or these rows
  abbrev pub MayLeaveAlso : S → S → Trees → Type 0
  MayLeaveAlso old new rows = (db : Trees) → g.recovers new db → g.recovers old db ⊎ (db ≡ rows)

  -- the store was just opened over these rows
  pub record IsOpenedOver (s : S) (db : Trees) : Type 0 where
    pub is_open : IsStoreOpen s
    pub now_is : now_in s ≡ db
    pub kept_is : kept_in s ≡ db
