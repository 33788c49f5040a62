-- From one run to the next.
use Rattle.std.proofs.Common.{sym, subst, arith}
use Rattle.std.proofs.Math.Logic.{∥∥₁_map}
use Rattle.sqlite_disk.specs.declared.Disk.{Ghosts}
use Rattle.sqlite_wal.specs.Recovery.{Image}
use Rattle.sqlite_trees.specs.declared.store.Store as trees
use Rattle.sqlite_trees.specs.Tree.{Trees}
use Rattle.sqlite_trees.specs.View.{IsClean}
use Rattle.sqlite_store.specs.declared.store.FileStore.{FileStore}
use Rattle.sqlite_store.specs.FileStore.{state as file_state, view, recovers}
use Rattle.sqlite.specs.Held.{Held, state}
use Rattle.sqlite.specs.State.{HasCleanDisk}
use Rattle.sqlite.proofs.Theorems.{opens_again}
use Rattle.desk_store.specs.RowStores.{IsHonest, IsRowStore, IsOpenedOver}
use Rattle.desk_store.specs.Found.{IsFoundAgain, IsOpenedBy, OpensAt}

-- where the files hold what the store before could leave, the open finds one of the databases that it could leave
pub found_again : {D S : Type 0} {h : Ghosts D} (g : trees.Ghosts S) (before : FileStore D h) (rows : S) (image : Image) (opens : Held S → Type 0) → OpensAt g image opens → IsRowStore (view before) (recovers before) → IsClean (view before)
    → IsHonest g rows → (file_state before).may_leave image → IsOpenedBy g opens rows → IsFoundAgain g before rows
found_again g before rows image opens at was clean honest left by =
    let held = was.obeys clean in
    let early : HasCleanDisk (state g by.conn) = omega (arith, honest, by.calm.clean) in
    let found = at by.conn by.opened early in
    ∥∥₁_map (opens_again before (was.numbered clean) (λ db h. (held.schema, held.found db h)) image left)
    (λ db. let r : (x : Trees) × recovers before x × IsOpenedOver g rows x = ((state g by.conn).committed.trees, subst (recovers before) (sym (found.holds db.0 db.2)) db.1, by.same honest) in r)
