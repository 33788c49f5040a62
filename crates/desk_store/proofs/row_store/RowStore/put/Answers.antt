use Rattle.std.proofs.Common.{arith}
use Rattle.desk_store.proofs.LoadLemmas.{keyed}
use Rattle.desk_store.proofs.SoundLemmas.{sound_put}
use Rattle.desk_store.proofs.StoreSteps.{rows_by_write, steps}
use Rattle.desk_store.proofs.row_store.RowStore.put.Goals as goal

pub put-requires-clause-keyed : goal.put-requires-clause-keyed
put-requires-clause-keyed g c = keyed c.args.table c.args.row.now c.requires

pub invariant_of-self : goal.invariant_of-self
invariant_of-self g c =
    let old = c.self.inside.store in
    let new = c.put.new.store in
    let made = rw c.tree.ensures at c.in-Ok.ensures.ok in
    rows_by_write (g.S.Store.view old) (g.S.Store.view new) _ _ (g.met.S.Store.shut_if_dirty new) c.self.invariant (λ h. omega (arith, c.put.ensures.quiet.clean)) c.put.ensures.quiet.outcomes _ _ made
    (λ schema ours sound. sound_put schema (g.S.Store.view old).trees c.args.table c.args.row.now c.requires ours sound) (g.met.S.Store.broken_if_shut old)

pub returns-in-Ok-clause-ok : goal.returns-in-Ok-clause-ok
returns-in-Ok-clause-ok g c honest =
    let old = c.self.inside.store in
    let made = rw c.tree.ensures at (c.in-Ok.ensures.ok honest) in
    rw (← c.self.view_is) (steps g.S.Store old c.put.new.store _ _ (g.met.S.Store.broken_if_shut old) made)
