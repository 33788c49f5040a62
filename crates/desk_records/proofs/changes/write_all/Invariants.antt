use Rattle.std.proofs.Common.{All, take}
use Rattle.desk_records.specs.Changes.{GoesOn, IsNarrowChange, all_changed}
use Rattle.desk_store.specs.RowStores.{IsCalm, IsHonest, now_in}
use Rattle.desk_records.proofs.changes.write_all.Given as goal

abbrev pub invariant-loop-change : goal.invariant-loop-change
invariant-loop-change g l =
    (IsHonest g.S.Store l.rows → GoesOn g.S.Store l.fn.rows l.rows (all_changed (now_in g.S.Store l.fn.rows) (take l.change-index l.changes)))
    × All IsNarrowChange (take l.change-index l.changes)
    × IsCalm g.S.Store l.fn.rows l.rows
