-- Rows over the store of a connection.
use Rattle.std.proofs.Common.{◌≡◌, false, sym, ap, subst, ◌∙◌, IsTrue}
use Rattle.sqlite_trees.specs.declared.store.Store.{Ghosts}
use Rattle.sqlite_trees.specs.declared.store.Shape.TheVariants.{Table as TableTree}
use Rattle.sqlite_trees.specs.Tree.{Trees}
use Rattle.sqlite_trees.specs.Objects.{catalog_tree}
use Rattle.sqlite_trees.specs.View.{IsClean, IsRolledBack}
use Rattle.sqlite_catalog.specs.Listing.{IsSound}
use Rattle.sqlite.specs.Effect.{Database}
use Rattle.sqlite.specs.State.{IsLive}
use Rattle.sqlite.specs.Held.{Held, state}
use Rattle.desk_store.specs.declared.table.StoreTable.TheVariants.{Tenant, Job, Outcome, Desk, Key}
use Rattle.desk_store.specs.Tables.{tree_of}
use Rattle.desk_store.specs.Layout.{AreStoreTrees, IsStoreSchema}
use Rattle.desk_store.specs.RowStores.{IsRowStore, IsOpenedOver}
use Rattle.desk_store.proofs.StoreSteps.{open_if_sound}

module _ {S : Type 0} (g : Ghosts S) (conn : Held S) (s : S) (undone : IsRolledBack (g.view conn.store) (g.view s)) (sound : IsClean (g.view s) → (g.view s).is_broken ≡ false)
    (shut : (g.view s).is_open ≡ false → IsTrue (g.view s).is_broken) where
  is_open : IsClean (g.view s) → IsTrue (g.view s).is_open
  is_open clean = open_if_sound (g.view s) shut (sound clean)

  kept : (clean : IsClean (g.view s)) → (g.view s).committed ≡ (g.view conn.store).committed
  kept clean = (undone.kept clean).committed (is_open clean)

  found : (clean : IsClean (g.view s)) → (g.view s).trees ≡ (g.view conn.store).committed
  found clean = (undone.undone (is_open clean)).0

  pub found_over : IsClean (g.view s) → IsOpenedOver g s (g.view conn.store).committed
  found_over clean = record { is_open = is_open clean; now_is = found clean; kept_is = kept clean }

  pub rows_over : ((g.view s).is_clean ≡ false → (g.view s).is_open ≡ false) → ((db : Trees) → IsTrue (g.view s).is_open → g.recovers s db → db ≡ (g.view s).committed)
      → ((g.view s).is_broken ≡ false → (g.view s).trees catalog_tree ≡ (g.view s).committed catalog_tree → (g.view s).shape ≡ (g.view s).committed_shape)
      → (IsClean (g.view s) → IsTrue (g.view s).is_numbered) → (IsTrue (state g conn).is_open → (state g conn).now ≡ (state g conn).committed) → IsLive (state g conn) → IsStoreSchema conn.schema
      → AreStoreTrees (g.view s).shape → IsRowStore (g.view s) (g.recovers s)
  rows_over dirty settled unaltered numbered auto live ours shapes = record {
    shaped = λ _ t. elim t as (λ k. (g.view s).shape (tree_of k) ≡ TableTree) [ Tenant ↦ shapes.0 | Job ↦ shapes.1 | Outcome ↦ shapes.2 | Desk ↦ shapes.3 | Key ↦ shapes.4 ];
    unaltered = λ clean. unaltered (sound clean) (ap (λ (db : Trees). db catalog_tree) (found clean ∙ sym (kept clean)));
    mended = λ h. (undone.undone h).1;
    numbered = numbered;
    obeys = λ clean.
        let was_open = (undone.kept clean).was_open (is_open clean) in
        let trees = ap (λ (d : Database). d.trees) (auto was_open) in
        let now : IsSound conn.schema (g.view s).trees = subst (IsSound conn.schema) (trees ∙ sym (found clean)) (live was_open).0 in
        record {
          schema = conn.schema;
          ours = ours;
          now = λ _. now;
          found = λ db h. subst (IsSound conn.schema) (found clean ∙ sym (kept clean) ∙ sym (settled db (is_open clean) h)) now;
        };
  }
