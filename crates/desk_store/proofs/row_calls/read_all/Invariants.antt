use Rattle.std.proofs.Common.{◌≡◌, IsSome, All, ◌++◌, List, Some, map}
use Rattle.sqlite_value.specs.Order.{Row}
use Rattle.sqlite_trees.specs.View.{IsClean, IsQuiet}
use Rattle.sqlite_exec.specs.Calls.{OnlyReads}
use Rattle.desk_store.proofs.row_calls.read_all.Given as goal

abbrev pub invariant-rows : goal.invariant-rows
invariant-rows g l =
    let old = g.S.Store.view l.fn.store in
    let now = g.S.Store.view l.store in
    (IsClean now → ((left : List Row) × (now.cursors 0 ≡ Some left) × (old.trees l.fn.tree ≡ map g.R.Record.stored l.all.items ++ left)))
    × All g.R.Record.is_narrow l.all.items
    × IsSome (now.cursors 0)
    × (IsClean now → OnlyReads old now)
    × IsQuiet g.S.Store.view g.S.Store.faults g.S.Store.recovers g.S.Store.is_shielded l.fn.store l.store
