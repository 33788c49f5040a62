-- A database of a store stays one where a row is put or taken out.
use Rattle.std.proofs.Common.{◌≡◌, ℕ, zero, suc, ℤ, Option, ◌+◌, ◌<◌, ◌==◌, Bool, true, false, not, ◌&&◌, ◌||◌, List, [], ◌∷◌, drop, length, refl, sym, ap, subst, ◌∙◌, arith}
use Rattle.std.proofs.Common.{eq-eqb, ne_eqb, inl, inr, Some}
use Rattle.std.specs.List.{AllByRecursion}
use Rattle.std.proofs.lemmas.Bool.{cases_eq}
use Rattle.std.proofs.lemmas.Option.{same_Some}
use Rattle.std.proofs.lemmas.Bool.Decides.{nat_tests}
use Rattle.std.proofs.lemmas.List.{drop_more, length-drop}
use Rattle.sqlite_value.specs.declared.value.Value.{Value}
use Rattle.sqlite_value.specs.declared.value.Value.TheVariants.{Null, Int}
use Rattle.sqlite_value.specs.Order.{Row, column}
use Rattle.sqlite_trees.specs.Tree.{Trees, put_row, without_rowid, with_tree}
use Rattle.sqlite_trees.specs.Objects.{catalog_tree}
use Rattle.sqlite_trees.proofs.ListLemmas.{all_weaker, all-filter}
use Rattle.sqlite_trees.proofs.TreeLemmas.{all-put_row}
use Rattle.sqlite_sql.specs.Ops.{is_null}
use Rattle.sqlite_schema.specs.declared.schema.Column.{Column}
use Rattle.sqlite_schema.specs.declared.schema.Constraint.{Constraint}
use Rattle.sqlite_schema.specs.declared.schema.Constraint.TheVariants.{Datatype, NotNull, Check, PrimaryKey, Unique, ForeignKey}
use Rattle.sqlite_schema.specs.declared.schema.Table.{Table as SqlTable}
use Rattle.sqlite_schema.specs.declared.schema.Schema.{Schema}
use Rattle.sqlite_schema.specs.Rules.{are_present, are_typed, is_of, passes}
use Rattle.sqlite_catalog.specs.Listing.{IsSound, Lists}
use Rattle.desk_store.specs.declared.table.ColumnForm.{ColumnForm}
use Rattle.desk_store.specs.declared.table.StoreTable.{StoreTable}
use Rattle.desk_store.specs.declared.table.StoreTable.TheVariants.{Tenant, Job, Outcome, Desk, Key}
use Rattle.desk_store.specs.Layout.{HaveColumns, HaveForms, IsStoreSchema, IsStoreTable}
use Rattle.desk_store.specs.Tables.{IsRowOf, columns_of, fits, suits_form, tree_of}

-- both of two truths
both : (a b : Bool) → (a && b) ≡ true → (a ≡ true) × (b ≡ true)
both true b h = (refl, h)
both false b h = absurd (cc)

all_true : (a b : Bool) → a ≡ true → b ≡ true → (a && b) ≡ true
all_true a b p q = rw (p, q) refl

-- of two tables with one tree, one is the other
pub same_table : (a b : StoreTable) → tree_of a ≡ tree_of b → a ≡ b
same_table a b h = same_Some a b (sym (there a) ∙ ap at_tree h ∙ there b)
  where
    at_tree : ℕ → Option StoreTable
    at_tree zero = Some Tenant
    at_tree (suc zero) = Some Job
    at_tree (suc (suc zero)) = Some Outcome
    at_tree (suc (suc (suc zero))) = Some Desk
    at_tree (suc (suc (suc (suc n)))) = Some Key

    there : (t : StoreTable) → at_tree (tree_of t) ≡ Some t
    there Tenant = refl
    there Job = refl
    there Outcome = refl
    there Desk = refl
    there Key = refl

later_than : (at : ℕ) → (0 == at + 1) ≡ false
later_than at = grind (arith, nat_tests)

-- what stands at the front of what is left of a row
at_front : (row : Row) (i : ℕ) (v : Value) (vs : Row) → drop i row ≡ v ∷ vs → (column row i ≡ v) × (drop (i + 1) row ≡ vs)
at_front row i v vs h =
    let within : i < length row = omega (arith, sym (length-drop i row) ∙ ap length h) in
    let same = sym (drop_more row i Null within) ∙ h in
    (cc same, cc same)

typed_from : (at : ℕ) (columns : List Column) (forms : List ColumnForm) (vs : List Value) → HaveForms columns forms → fits forms vs ≡ true → are_typed (Some 0) (at + 1) columns vs ≡ true
typed_from at [] [] [] have fit = refl
typed_from at [] [] (v ∷ vs) have fit = absurd (cc)
typed_from at [] (form ∷ forms) vs have fit = absurd have
typed_from at (column ∷ columns) [] vs have fit = absurd have
typed_from at (column ∷ columns) (form ∷ forms) [] have fit = absurd (cc)
typed_from at (column ∷ columns) (form ∷ forms) (v ∷ vs) have fit =
    let parts = both (suits_form form v) (fits forms vs) fit in
    let suited = both (is_of form.kind v) (form.may_be_null || not (is_null v)) parts.0 in
    rw (later_than at, have.0.strict, have.0.kind, suited.0) (typed_from (at + 1) columns forms vs have.1 parts.1)

-- a value is there where none may be missing
is_there : (b : Bool) (v : Value) → (b || not (is_null v)) ≡ true → (not (not b) || not (is_null v)) ≡ true
is_there true v h = refl
is_there false v h = h

present_from : (at : ℕ) (row : Row) (columns : List Column) (forms : List ColumnForm) (vs : List Value) → HaveForms columns forms → fits forms vs ≡ true → drop (at + 1 + 1) row ≡ vs
    → are_present (Some 0) (at + 1) columns row ≡ true
present_from at row [] forms vs have fit left = refl
present_from at row (column ∷ columns) [] vs have fit left = absurd have
present_from at row (column ∷ columns) (form ∷ forms) [] have fit left = absurd (cc)
present_from at row (column ∷ columns) (form ∷ forms) (v ∷ vs) have fit left =
    let parts = both (suits_form form v) (fits forms vs) fit in
    let suited = both (is_of form.kind v) (form.may_be_null || not (is_null v)) parts.0 in
    let front = at_front row (at + 1 + 1) v vs left in
    rw (later_than at, have.0.null, front.0, is_there form.may_be_null v suited.1) (present_from (at + 1) row columns forms vs have.1 parts.1 front.1)

-- which rules a row passes doesn't rest on other rows
passes_any : (rule : Constraint) (schema : Schema) (db later : Trees) (t : SqlTable) (row : Row) → schema.indexes ≡ [] → IsStoreTable t → passes rule schema db t row ≡ true → passes rule schema later t row ≡ true
passes_any Datatype schema db later t row alone ours h = h
passes_any NotNull schema db later t row alone ours h = h
passes_any Check schema db later t row alone ours h = h
passes_any PrimaryKey schema db later t row alone ours h = refl
passes_any Unique schema db later t row alone ours h = rw alone refl
passes_any ForeignKey schema db later t row alone ours h = rw ours.1.free.references refl

typed_all : (columns : List Column) (forms : List ColumnForm) (vs : List Value) → HaveColumns columns forms → fits forms vs ≡ true → are_typed (Some 0) 0 columns (Null ∷ vs) ≡ true
typed_all [] forms vs have fit = absurd have
typed_all (key ∷ others) forms vs have fit = typed_from 0 others forms vs have fit

present_all : (key : ℤ) (columns : List Column) (forms : List ColumnForm) (vs : List Value) → HaveColumns columns forms → fits forms vs ≡ true → are_present (Some 0) 0 columns (Int key ∷ Null ∷ vs) ≡ true
present_all key [] forms vs have fit = absurd have
present_all key (first ∷ others) forms vs have fit = present_from 0 (Int key ∷ Null ∷ vs) others forms vs have fit refl

passes_new : (rule : Constraint) (schema : Schema) (db : Trees) (t : SqlTable) (row : Row) → schema.indexes ≡ [] → (ours : IsStoreTable t) → IsRowOf ours.0 row → passes rule schema db t row ≡ true
passes_new Datatype schema db t row alone ours of =
    let here = subst (λ key. are_typed key 0 t.columns (Null ∷ of.values) ≡ true) (sym ours.1.key) (typed_all t.columns (columns_of ours.0) of.values ours.1.columns of.fit) in
    all_true _ _ (subst (λ r. are_typed t.key 0 t.columns (drop 1 r) ≡ true) (sym of.is) here) (rw ours.1.free.computed refl)
passes_new NotNull schema db t row alone ours of =
    let here = subst (λ key. are_present key 0 t.columns (Int of.key ∷ Null ∷ of.values) ≡ true) (sym ours.1.key) (present_all of.key t.columns (columns_of ours.0) of.values ours.1.columns of.fit) in
    subst (λ r. are_present t.key 0 t.columns r ≡ true) (sym of.is) here
passes_new Check schema db t row alone ours of = rw ours.1.free.checks refl
passes_new PrimaryKey schema db t row alone ours of = refl
passes_new Unique schema db t row alone ours of = rw alone refl
passes_new ForeignKey schema db t row alone ours of = rw ours.1.free.references refl

module _ (rule : Constraint) (schema : Schema) (alone : schema.indexes ≡ []) (db : Trees) (n : ℕ) (rows : List Row) where
  abbrev edited : Trees
  edited = with_tree db n rows

  abbrev Kept : Trees → SqlTable → Type 0
  Kept now t = AllByRecursion (λ row. passes rule schema now t row ≡ true) (now t.tree)

  kept_at : (t : SqlTable) → IsStoreTable t → (t.tree ≡ n → AllByRecursion (λ row. passes rule schema db t row ≡ true) rows) → Kept db t → Kept edited t
  kept_at t ours here was =
      let moved = λ (rs : List Row). all_weaker _ (λ row. passes rule schema edited t row ≡ true) (λ row. passes_any rule schema db edited t row alone ours) rs in
      elim (cases_eq t.tree n) [
        | inl same ↦ rw (eq-eqb t.tree n same) (moved rows (here same))
        | inr other ↦ rw (ne_eqb t.tree n other) (moved (db t.tree) was)
      ]

  all_kept : (tables : List SqlTable) → AllByRecursion IsStoreTable tables
      → ((t : SqlTable) → IsStoreTable t → t.tree ≡ n → Kept db t → AllByRecursion (λ row. passes rule schema db t row ≡ true) rows) → AllByRecursion (Kept db) tables → AllByRecursion (Kept edited) tables
  all_kept [] ours edit was = tt
  all_kept (t ∷ tables) ours edit was = (kept_at t ours.0 (λ same. edit t ours.0 same was.0) was.0, all_kept tables ours.1 edit was.1)

sound_after : (schema : Schema) (db : Trees) (t : StoreTable) (rows : List Row) → IsStoreSchema schema → IsSound schema db
    → ((rule : Constraint) (s : SqlTable) → IsStoreTable s → s.tree ≡ tree_of t → AllByRecursion (λ row. passes rule schema db s row ≡ true) (db s.tree) → AllByRecursion (λ row. passes rule schema db s row ≡ true) rows)
    → IsSound schema (with_tree db (tree_of t) rows)
sound_after schema db t rows ours sound edit = record {
  lists = elim t as (λ k. Lists (with_tree db (tree_of k) rows catalog_tree) schema) [ Tenant ↦ sound.lists | Job ↦ sound.lists | Outcome ↦ sound.lists | Desk ↦ sound.lists | Key ↦ sound.lists ];
  obeys = record {
    rules = λ rule. all_kept rule schema ours.indexes db (tree_of t) rows schema.tables ours.tables (edit rule) (sound.obeys.rules rule);
    indexed = rw ours.indexes tt;
  };
}

pub sound_put : (schema : Schema) (db : Trees) (t : StoreTable) (row : Row) → IsRowOf t row → IsStoreSchema schema → IsSound schema db → IsSound schema (with_tree db (tree_of t) (put_row row (db (tree_of t))))
sound_put schema db t row of ours sound =
    sound_after schema db t _ ours sound (λ rule s table same was.
    all-put_row (λ r. passes rule schema db s r ≡ true) row (db (tree_of t))
    (passes_new rule schema db s row ours.indexes table (subst (λ k. IsRowOf k row) (same_table t table.0 (sym same ∙ table.1.tree)) of))
    (subst (λ n. AllByRecursion (λ r. passes rule schema db s r ≡ true) (db n)) same was))

pub sound_remove : (schema : Schema) (db : Trees) (t : StoreTable) (key : ℤ) → IsStoreSchema schema → IsSound schema db → IsSound schema (with_tree db (tree_of t) (without_rowid key (db (tree_of t))))
sound_remove schema db t key ours sound =
    sound_after schema db t _ ours sound (λ rule s table same was. all-filter _ _ (db (tree_of t)) (subst (λ n. AllByRecursion (λ r. passes rule schema db s r ≡ true) (db n)) same was))
