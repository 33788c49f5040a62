-- Why no change is added, and why none is committed.
use Rattle.std.specs.Prelude.{◌≡◌, ◌≢◌, ◌≤◌, ◌^◌, List, length, All, ⊤}
use Rattle.sqlite_trees.specs.declared.store.Store.{Ghosts}
use Rattle.desk_store.specs.RowStores.{FailsFor, IsHonest, reals_in}
use Rattle.desk_records.specs.Changes.{CanWrite}
use Rattle.desk_records.specs.declared.stored_change.StoredChange.{StoredChange}
use Rattle.shared_store.specs.Rules.{IsLonger}
use Rattle.shared_store.specs.declared.change_queue.AddFault.{AddFault}
use Rattle.shared_store.specs.declared.change_queue.AddFault.TheVariants.{NoMemory, TooMany, Outrun}
use Rattle.shared_store.specs.declared.commit_fault.CommitFault.{CommitFault}
use Rattle.shared_store.specs.declared.commit_fault.CommitFault.TheVariants.{Store, OtherQueue}

-- there are as many changes as ever, or the history is longer than what was added
abbrev pub RefusesAdding : {J : Type 0} → List StoredChange → AddFault J → Type 0
RefusesAdding added NoMemory = ⊤
RefusesAdding added (TooMany front) = (front ≡ added) × (2 ^ 60 ≤ length front)
RefusesAdding added (Outrun front) = IsLonger added front

abbrev pub MayRefuse : {J : Type 0} → AddFault J → Type 0
MayRefuse fault = (added : List StoredChange) × RefusesAdding added fault

-- the store failed at a batch; or the queue is another store's, which has taken more or fewer
abbrev pub HasFailed : {S J : Type 0} → Ghosts S → CommitFault J → Type 0
HasFailed {S} g (Store error) =
    (batch : List StoredChange) × (old : S) × (new : S) × (IsHonest g new
    → FailsFor g (All (CanWrite (reals_in g old)) batch → ⊥) old new error)
HasFailed g (OtherQueue one other) = length one ≢ length other
