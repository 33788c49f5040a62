use Rattle.std.proofs.Common.{All, take}
use Rattle.desk_records.specs.Changes.{GoesOn, IsNarrowNumber, without_jobs}
use Rattle.desk_store.specs.RowStores.{IsCalm, IsHonest, now_in}
use Rattle.desk_records.proofs.changes.remove_jobs.Given as goal

abbrev pub invariant-loop-number : goal.invariant-loop-number
invariant-loop-number g l =
    (IsHonest g.S.Store l.rows → GoesOn g.S.Store l.fn.rows l.rows (without_jobs (now_in g.S.Store l.fn.rows) l.desk (take l.number-index l.numbers)))
    × All IsNarrowNumber (take l.number-index l.numbers)
    × IsCalm g.S.Store l.fn.rows l.rows
