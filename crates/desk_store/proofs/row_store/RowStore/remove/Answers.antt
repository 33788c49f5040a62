use Rattle.std.proofs.Common.{arith, to_z-of_z, SFits, w64}
use Rattle.desk_store.proofs.SoundLemmas.{sound_remove}
use Rattle.desk_store.proofs.StoreSteps.{rows_by_write, steps}
use Rattle.desk_store.proofs.row_store.RowStore.remove.Goals as goal

pub invariant_of-self : goal.invariant_of-self
invariant_of-self g c =
    let old = c.self.inside.store in
    let new = c.remove.new.store in
    let fits : SFits w64 c.args.key = c.ranges.key in
    let made = rw c.tree.ensures at (simp to_z-of_z at c.in-Ok.ensures.ok) in
    rows_by_write (g.S.Store.view old) (g.S.Store.view new) _ _ (g.met.S.Store.shut_if_dirty new) c.self.invariant (λ h. omega (arith, c.remove.ensures.quiet.clean)) c.remove.ensures.quiet.outcomes _ _ made
    (λ schema ours sound. sound_remove schema (g.S.Store.view old).trees c.args.table c.args.key ours sound) (g.met.S.Store.broken_if_shut old)

pub returns-in-Ok-clause-ok : goal.returns-in-Ok-clause-ok
returns-in-Ok-clause-ok g c honest =
    let old = c.self.inside.store in
    let fits : SFits w64 c.args.key = c.ranges.key in
    let made = rw c.tree.ensures at ((simp to_z-of_z at c.in-Ok.ensures.ok) honest) in
    rw (← c.self.view_is) (steps g.S.Store old c.remove.new.store _ _ (g.met.S.Store.broken_if_shut old) made)
