-- The rows that an open finds in the files, and why it finds none.
use Rattle.std.specs.Prelude.{◌≡◌, ◌⊎◌, Bool, true, false}
use Rattle.sqlite_disk.specs.declared.Disk.{Ghosts}
use Rattle.sqlite_wal.specs.Recovery.{Image}
use Rattle.sqlite_trees.specs.declared.store.Store as trees
use Rattle.sqlite_trees.specs.Tree.{Trees}
use Rattle.sqlite_store.specs.declared.store.FileStore.{FileStore}
use Rattle.sqlite_store.specs.FileStore.{recovers}
use Rattle.sqlite.specs.Start.{FindsIn}
use Rattle.sqlite.specs.Held.{Held, state}
use Rattle.sqlite.specs.State.{HasCleanDisk}
use Rattle.desk_store.specs.RowStores.{IsCalm, IsHonest, IsNoStore, IsOpenedOver}
use Rattle.desk_store.specs.declared.fault.StoreOpenFault.{StoreOpenFault}
use Rattle.desk_store.specs.declared.fault.StoreOpenFault.TheVariants.{NoStore, OtherTables}
use Rattle.desk_store.specs.declared.file_kinds.FileKind.{FileKind}
use Rattle.desk_store.specs.declared.file_kinds.FileKind.TheVariants.{Blank, Store}

-- a store, or a file that becomes one
abbrev pub is_openable : FileKind → Bool
is_openable Blank = true
is_openable Store = true
is_openable _ = false

module _ {S : Type 0} (g : trees.Ghosts S) where
  -- the rows are those of a connection that was opened
  pub record IsOpenedBy (opens : Held S → Type 0) (s : S) : Type 0 where
    pub conn : Held S
    pub opened : opens conn
    pub same : IsHonest g s → IsOpenedOver g s (state g conn).committed.trees
    pub calm : IsCalm g conn.store s

  -- A call failed; or the file is something else; or it was opened, and isn't a store.
  abbrev pub RefusesOpen : (FileKind → Type 0) → (StoreOpenFault → Type 0) → (Held S → Type 0)
      → StoreOpenFault → Type 0
  RefusesOpen finds fails opens fault =
      fails fault
      ⊎ (((kind : FileKind) × finds kind × (is_openable kind ≡ false) × (fault ≡ NoStore kind))
      ⊎ ((conn : Held S) × opens conn × IsNoStore g conn × (fault ≡ OtherTables)))

  -- the connection has what the files held
  abbrev pub IsFoundIn : Image → Held S → Type 0
  IsFoundIn image conn = HasCleanDisk (state g conn) → FindsIn image (state g conn)

  abbrev pub OpensAt : Image → (Held S → Type 0) → Type 0
  OpensAt image opens = (conn : Held S) → opens conn → IsFoundIn image conn

  -- the rows are those of one of the databases that a crash could leave
  abbrev pub IsFoundAgain : {D : Type 0} {h : Ghosts D} → FileStore D h → S → Type 0
  IsFoundAgain before rows = ∥ ((db : Trees) × recovers before db × IsOpenedOver g rows db) ∥₁
