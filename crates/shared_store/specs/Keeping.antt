-- The rows that a crash leaves of a store that threads share.
use Rattle.std.specs.Prelude.{◌≡◌, ◌⊎◌, List, ◌++◌, Option, Some, None, IfSome}
use Rattle.sqlite_trees.specs.declared.store.Store.{Ghosts}
use Rattle.sqlite_trees.specs.Tree.{Trees}
use Rattle.desk_store.specs.RowStores.{IsHonest, IsStoreOpen, kept_in, now_in}
use Rattle.desk_records.specs.Changes.{all_changed}
use Rattle.desk_records.specs.declared.stored_change.StoredChange.{StoredChange}
use Rattle.shared_store.specs.Faults.{HasFailed}
use Rattle.shared_store.specs.declared.commit_fault.CommitFault.{CommitFault}

-- the changes that were added, those of them that were taken to be committed, and those that wait
pub record QueuedChanges : Type 0 where
  pub added : List StoredChange
  pub taken : List StoredChange
  pub waiting : List StoredChange

-- the store, the changes that are committed, the batch that failed, and why it did
pub record KeptStore (S J : Type 0) : Type 0 where
  pub rows : S
  pub committed : List StoredChange
  pub failed : Option (List StoredChange)
  pub fault : Option (CommitFault J)

-- these are the rows after all of the changes; or also after a batch that failed
abbrev pub IsLeft : Trees → List StoredChange → Option (List StoredChange) → Trees → Type 0
IsLeft first committed None db = db ≡ all_changed first committed
IsLeft first committed (Some batch) db =
    (db ≡ all_changed first committed) ⊎ (db ≡ all_changed first (committed ++ batch))

-- a store of these rows, with no batch under way
pub record IsSettledAt {S : Type 0} (g : Ghosts S) (rows : Trees) (s : S) : Type 0 where
  pub is_open : IsStoreOpen g s
  pub between : now_in g s ≡ kept_in g s
  pub are : kept_in g s ≡ rows

-- whatever a crash leaves has every change that is committed, in order
abbrev pub LeavesCommitted : {S J : Type 0} → Ghosts S → Trees → KeptStore S J → Type 0
LeavesCommitted g first k =
    (db : Trees) → g.recovers k.rows db → IsLeft first k.committed k.failed db

-- so it is, and until a batch fails the store is open
pub record IsKeptStore {S J : Type 0} (g : Ghosts S) (first : Trees) (k : KeptStore S J) : Type 0 where
  pub goes_on : k.failed ≡ None → IsHonest g k.rows
      → IsSettledAt g (all_changed first k.committed) k.rows
  pub leaves : IsHonest g k.rows → LeavesCommitted g first k
  pub cause : IfSome k.fault (HasFailed g)
