use Rattle.std.proofs.Common.{inl, inr, rules, sym, ◌∙◌}
use Rattle.sqlite_trees.specs.View.{IsClean}
use Rattle.desk_store.proofs.OverLemmas.{found_over, rows_over}
use Rattle.desk_store.proofs.StoreSteps.{broken_told}
use Rattle.desk_store.proofs.row_store.RowStore.over.Goals as goal

pub invariant_of-result : goal.invariant_of-result
invariant_of-result g c =
    let s = c.into_store-store.result in
    let sound = λ (clean : IsClean (g.S.Store.view s)). sym (c.is_broken.ensures clean) ∙ c.if-is_broken.false in
    rows_over g.S.Store c.args.conn s c.into_store-store.ensures.undone sound (g.met.S.Store.broken_if_shut s) (g.met.S.Store.shut_if_dirty s) (g.met.S.Store.settled s) (λ same objects. (g.met.S.Store.unaltered s same objects).0)
    c.into_store-store.ensures.numbered (search rules) (search rules) (search rules) (search rules)

pub returns-clause-found : goal.returns-clause-found
returns-clause-found g c =
    let s = c.into_store-store.result in
    let sound = λ (clean : IsClean (g.S.Store.view s)). sym (c.is_broken.ensures clean) ∙ c.if-is_broken.false in
    found_over g.S.Store c.args.conn s c.into_store-store.ensures.undone sound (g.met.S.Store.broken_if_shut s)

pub returns-then-is_broken-clause-none : goal.returns-then-is_broken-clause-none
returns-then-is_broken-clause-none g c =
    let s = c.into_store-store.result in
    let broken = broken_told (g.S.Store.view s) c.is_broken.result c.is_broken.ensures (g.met.S.Store.shut_if_dirty s) (g.met.S.Store.broken_if_shut s) c.if-is_broken.true in
    inr (s, c.into_store-store.ensures.quiet, inl broken)

pub returns-then-not-are_store_trees-clause-none : goal.returns-then-not-are_store_trees-clause-none
returns-then-not-are_store_trees-clause-none g c =
    inr (c.into_store-store.result, c.into_store-store.ensures.quiet, inr (λ shapes. let all = c.are_store_trees.ensures.1 shapes in absurd (cc (all, c.if-not-are_store_trees.true))))
