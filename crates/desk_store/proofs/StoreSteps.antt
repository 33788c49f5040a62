-- A step of a store keeps what the rows need.
use Rattle.std.proofs.Common.{◌≡◌, ◌⊎◌, inl, inr, ℕ, Bool, true, false, true≢false, List, refl, sym, ap, subst, ◌∙◌, IsTrue}
use Rattle.sqlite_value.specs.Order.{Row}
use Rattle.sqlite_trees.specs.declared.store.Store.{Ghosts}
use Rattle.sqlite_trees.specs.Tree.{Trees, with_tree}
use Rattle.sqlite_trees.proofs.Doubt.{no_doubt}
use Rattle.sqlite_trees.specs.View.{View, IsClean, SetsTree, Commits, IsRolledBack}
use Rattle.sqlite_exec.specs.Calls.{OnlyReads}
use Rattle.sqlite.proofs.StateLemmas.{clean_if_open}
use Rattle.sqlite_schema.specs.declared.schema.Schema.{Schema}
use Rattle.sqlite_catalog.specs.Listing.{IsSound}
use Rattle.desk_store.specs.Layout.{IsStoreSchema}
use Rattle.desk_store.specs.Tables.{tree_of}
use Rattle.desk_store.specs.RowStores.{IsDatabase, IsRowStore, KeepsCommit, ChangesBatch}

pub open_if_sound : (v : View) → (v.is_open ≡ false → IsTrue v.is_broken) → v.is_broken ≡ false → IsTrue v.is_open
open_if_sound v law sound = elim v.is_open as (λ b. (b ≡ false → IsTrue v.is_broken) → b ≡ true) [ true ↦ λ _. refl | false ↦ λ k. absurd (true≢false (sym (k refl) ∙ sound)) ] law

module _ (old new : View) (before later : Trees → Type 0) (law : new.is_clean ≡ false → new.is_open ≡ false) (was : IsRowStore old before) (back : IsClean new → IsClean old) where
  -- where no outcome of a crash is new
  module _ (fewer : (db : Trees) → later db → before db) where
    pub rows_by_write : (tree : ℕ) (edit : List Row → List Row) → (IsClean new → SetsTree old new tree edit)
        → ((schema : Schema) → IsStoreSchema schema → IsSound schema old.trees → IsSound schema (with_tree old.trees tree (edit (old.trees tree)))) → (old.is_open ≡ false → IsTrue old.is_broken) → IsRowStore new later
    rows_by_write tree edit made keeps shut = record {
      shaped = λ clean t. ap (λ (v : View). v.shape (tree_of t)) (made clean).is ∙ was.shaped (back clean) t;
      unaltered = λ clean. ap (λ (v : View). v.shape) (made clean).is ∙ was.unaltered (back clean) ∙ sym (ap (λ (v : View). v.committed_shape) (made clean).is);
      mended = λ is_open. let clean = clean_if_open new law is_open in ap (λ (v : View). v.is_broken) (made clean).is ∙ (made clean).sound;
      numbered = λ clean. ap (λ (v : View). v.is_numbered) (made clean).is ∙ was.numbered (back clean);
      obeys = λ clean. let held = was.obeys (back clean) in record {
        schema = held.schema;
        ours = held.ours;
        now = λ _. subst (IsSound held.schema) (sym (ap (λ (v : View). v.trees) (made clean).is)) (keeps held.schema held.ours (held.now (open_if_sound old shut (made clean).sound)));
        found = λ db h. held.found db (fewer db h);
      };
    }

    pub rows_by_read : (IsClean new → OnlyReads old new) → (IsClean new → old.is_broken ≡ false) → IsRowStore new later
    rows_by_read made sound = record {
      shaped = λ clean t. ap (λ (v : View). v.shape (tree_of t)) (made clean) ∙ was.shaped (back clean) t;
      unaltered = λ clean. ap (λ (v : View). v.shape) (made clean) ∙ was.unaltered (back clean) ∙ sym (ap (λ (v : View). v.committed_shape) (made clean));
      mended = λ is_open. let clean = clean_if_open new law is_open in ap (λ (v : View). v.is_broken) (made clean) ∙ sound clean;
      numbered = λ clean. ap (λ (v : View). v.is_numbered) (made clean) ∙ was.numbered (back clean);
      obeys = λ clean. let held = was.obeys (back clean) in record {
        schema = held.schema;
        ours = held.ours;
        now = λ is_open. subst (IsSound held.schema) (sym (ap (λ (v : View). v.trees) (made clean))) (held.now (sym (ap (λ (v : View). v.is_open) (made clean)) ∙ is_open));
        found = λ db h. held.found db (fewer db h);
      };
    }

  -- a crash leaves what it could, or the batch
  module _ (outcomes : (db : Trees) → later db → ((old.is_broken ≡ false) × (db ≡ old.trees)) ⊎ before db) (shut : old.is_open ≡ false → IsTrue old.is_broken) where
    found : (held : IsDatabase old before) (db : Trees) → later db → IsSound held.schema db
    found held db h = elim (outcomes db h) [
      | inl made ↦ subst (IsSound held.schema) (sym made.1) (held.now (open_if_sound old shut made.0))
      | inr left ↦ held.found db left
    ]

    pub rows_by_commit : (IsClean new → Commits old new) → IsRowStore new later
    rows_by_commit made = record {
      shaped = λ clean t. ap (λ (v : View). v.shape (tree_of t)) (made clean).is ∙ was.shaped (back clean) t;
      unaltered = λ clean. ap (λ (v : View). v.shape) (made clean).is ∙ sym (ap (λ (v : View). v.committed_shape) (made clean).is);
      mended = λ is_open. let clean = clean_if_open new law is_open in ap (λ (v : View). v.is_broken) (made clean).is ∙ (made clean).sound;
      numbered = λ clean. ap (λ (v : View). v.is_numbered) (made clean).is ∙ was.numbered (back clean);
      obeys = λ clean. let held = was.obeys (back clean) in record {
        schema = held.schema;
        ours = held.ours;
        now = λ _. subst (IsSound held.schema) (sym (ap (λ (v : View). v.trees) (made clean).is)) (held.now (open_if_sound old shut (made clean).sound));
        found = found held;
      };
    }

    -- also after calls that left the commit and the shapes
    pub rows_by_undo : (mid : View) → (IsClean new → KeepsCommit old mid) → IsRolledBack mid new → (IsTrue old.is_open → before old.committed) → IsRowStore new later
    rows_by_undo mid kept undone stays =
        let same = λ (clean : IsClean new). let k = kept clean in k.shape ∙ was.unaltered (back clean) ∙ sym k.committed_shape in
        record {
          shaped = λ clean t. ap (λ f. f (tree_of t)) (undone.shape (same clean) ∙ (kept clean).shape) ∙ was.shaped (back clean) t;
          unaltered = λ clean. undone.shape (same clean) ∙ same clean ∙ sym undone.committed_shape;
          mended = λ is_open. (undone.undone is_open).1;
          numbered = λ clean. undone.numbered ∙ (kept clean).numbered ∙ was.numbered (back clean);
          obeys = λ clean. let held = was.obeys (back clean) in record {
            schema = held.schema;
            ours = held.ours;
            now = λ is_open.
                let mid_open = (undone.kept clean).was_open is_open in
                let old_open = (kept clean).was_open mid_open in
                subst (IsSound held.schema) (sym ((undone.undone is_open).0 ∙ (kept clean).committed mid_open)) (held.found old.committed (stays old_open));
            found = found held;
          };
        }

pub kept_itself : (v : View) → KeepsCommit v v
kept_itself v = record { shape = refl; reals = refl; committed_shape = refl; committed_reals = refl; numbered = refl; was_open = λ h. h; committed = λ _. refl; marks = λ _. refl }

pub steps : {S : Type 0} (g : Ghosts S) (old new : S) (tree : ℕ) (edit : List Row → List Row)
    → ((g.view old).is_open ≡ false → IsTrue (g.view old).is_broken)
    → SetsTree (g.view old) (g.view new) tree edit
    → ChangesBatch g old new (with_tree (g.view old).trees tree (edit ((g.view old).trees tree)))
steps g old new tree edit law made =
    let is_open = open_if_sound (g.view old) law made.sound in record {
      was_open = is_open;
      is_open = ap (λ (v : View). v.is_open) made.is ∙ is_open;
      now_is = ap (λ (v : View). v.trees) made.is;
      kept_is = ap (λ (v : View). v.committed) made.is;
      reals_are = ap (λ (v : View). v.reals) made.is;
    }

-- a store that tells it is broken is, also where the disk lied
pub broken_told : (v : View) (b : Bool) → (IsClean v → b ≡ v.is_broken) → (v.is_clean ≡ false → v.is_open ≡ false) → (v.is_open ≡ false → IsTrue v.is_broken) → b ≡ true → IsTrue v.is_broken
broken_told v b told dirty shut is = go v.is_clean refl
  where
    go : (clean : Bool) → v.is_clean ≡ clean → IsTrue v.is_broken
    go true same = sym (told (no_doubt v.is_clean same)) ∙ is
    go false same = shut (dirty same)
