use Rattle.std.proofs.Common.{arith, to_z-of_z, SFits, w64}
use Rattle.desk_store.specs.declared.table.StoreTable.TheVariants.{Outcome}
use Rattle.desk_store.specs.RowStores.{IsHonest}
use Rattle.desk_records.specs.Changes.{without_row}
use Rattle.desk_records.proofs.StepLemmas.{goes, goes_then}
use Rattle.desk_records.proofs.changes.remove_rows.Goals as goal

pub returns-in-Ok-remove-clause-ok : goal.returns-in-Ok-remove-clause-ok
returns-in-Ok-remove-clause-ok g c honest =
    let old = c.args.rows.now in
    let mid = c.remove.new.self in
    let new = c.remove-2.new.self in
    let back : IsHonest g.S.Store mid = omega (arith, c.remove-2.ensures.calm.clean) in
    let fits : SFits w64 c.args.id = c.ranges.id in
    goes_then g.S.Store old mid new _ (λ db. without_row db Outcome c.args.id) (goes g.S.Store old mid _ ((simp to_z-of_z at c.in-Ok.ensures.ok) back)) (goes g.S.Store mid new _ ((simp to_z-of_z at c.in-Ok-remove.ensures.ok) honest))
