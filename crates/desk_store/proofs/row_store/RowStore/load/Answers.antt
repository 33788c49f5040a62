use Rattle.std.proofs.Common.{arith}
use Rattle.desk_store.proofs.StoreSteps.{rows_by_read}
use Rattle.desk_store.proofs.row_store.RowStore.load.Goals as goal

pub invariant_of-self : goal.invariant_of-self
invariant_of-self g c =
    let old = c.self.inside.store in
    let new = c.read_all.new.store in
    rows_by_read (g.S.Store.view old) (g.S.Store.view new) _ _ (g.met.S.Store.shut_if_dirty new) c.self.invariant (λ h. omega (arith, c.read_all.ensures.quiet.clean)) c.read_all.ensures.quiet.outcomes c.in-Ok.ensures.same c.in-Ok.ensures.sound
