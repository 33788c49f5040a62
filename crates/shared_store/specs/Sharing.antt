-- Why a thread isn't told that its change is committed.
use Rattle.std.specs.Prelude.{◌<◌, length}
use Rattle.sqlite_trees.specs.declared.store.Store.{Ghosts}
use Rattle.shared_store.specs.Faults.{HasFailed, MayRefuse}
use Rattle.shared_store.specs.declared.share_fault.ShareFault.{ShareFault}
use Rattle.shared_store.specs.declared.share_fault.ShareFault.TheVariants.{Add, Commit, Lost}

abbrev pub FailsToShare : {S J : Type 0} → Ghosts S → ShareFault J → Type 0
FailsToShare g (Add fault) = MayRefuse fault
FailsToShare g (Commit fault) = HasFailed g fault
FailsToShare g (Lost told committed) = length committed < length told
