use Rattle.std.proofs.Common.{arith}
use Rattle.desk_store.proofs.StoreSteps.{rows_by_commit, rows_by_undo, kept_itself}
use Rattle.desk_store.proofs.row_store.RowStore.commit.Goals as goal
use Rattle.desk_store.proofs.row_store.RowStore.commit.Goals.{in-Ok, in-Err}

pub invariant_of-self : goal.invariant_of-self
invariant_of-self g c =
    let old = c.self.inside.store in
    let new = c.commit.new.self in
    elim c.match-commit.branch [
      | in-Ok w ↦ rows_by_commit (g.S.Store.view old) (g.S.Store.view new) _ _ (g.met.S.Store.shut_if_dirty new) c.self.invariant (λ h. omega (arith, c.commit.ensures.clean)) c.commit.ensures.crash (g.met.S.Store.broken_if_shut old)
          w.in-Ok.ensures.ok
      | in-Err w ↦ rows_by_undo (g.S.Store.view old) (g.S.Store.view new) _ _ (g.met.S.Store.shut_if_dirty new) c.self.invariant (λ h. omega (arith, c.commit.ensures.clean)) c.commit.ensures.crash (g.met.S.Store.broken_if_shut old)
          (g.S.Store.view old) (λ _. kept_itself (g.S.Store.view old)) w.in-Err.ensures.err (g.met.S.Store.stays old)
    ]
