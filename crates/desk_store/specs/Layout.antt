-- Schemas whose tables are those of a store, with nothing more to obey.
use Rattle.std.specs.Prelude.{◌≡◌, ℕ, true, not, List, [], ◌∷◌, Some, ⊤}
use Rattle.std.specs.List.{AllByRecursion}
use Rattle.sqlite_trees.specs.declared.store.Shape.{Shape}
use Rattle.sqlite_trees.specs.declared.store.Shape.TheVariants.{Table as TableTree}
use Rattle.sqlite_schema.specs.declared.schema.Column.{Column}
use Rattle.sqlite_schema.specs.declared.schema.Table.{Table as SqlTable}
use Rattle.sqlite_schema.specs.declared.schema.Schema.{Schema}
use Rattle.desk_store.specs.declared.table.ColumnForm.{ColumnForm}
use Rattle.desk_store.specs.declared.table.StoreTable.{StoreTable}
use Rattle.desk_store.specs.Tables.{columns_of, table_name, tree_of}

-- a STRICT column of this form
pub record HasColumnForm (column : Column) (form : ColumnForm) : Type 0 where
  pub strict : column.is_strict ≡ true
  pub kind : column.kind ≡ form.kind
  pub null : column.not_null ≡ not form.may_be_null

-- each of the columns has its form
abbrev pub HaveForms : List Column → List ColumnForm → Type 0
HaveForms [] [] = ⊤
HaveForms [] (form ∷ forms) = ⊥
HaveForms (column ∷ columns) [] = ⊥
HaveForms (column ∷ columns) (form ∷ forms) = HasColumnForm column form × HaveForms columns forms

-- the INTEGER PRIMARY KEY, and the other columns
abbrev pub HaveColumns : List Column → List ColumnForm → Type 0
HaveColumns [] forms = ⊥
HaveColumns (key ∷ others) forms = HaveForms others forms

-- no row has to obey more than the types
pub record HasNoRule (t : SqlTable) : Type 0 where
  pub checks : t.checks ≡ []
  pub references : t.references ≡ []
  pub computed : t.computed ≡ []

pub record IsTableOf (t : SqlTable) (table : StoreTable) : Type 0 where
  pub tree : t.tree ≡ tree_of table
  pub name : t.name ≡ table_name table
  pub key : t.key ≡ Some 0
  pub columns : HaveColumns t.columns (columns_of table)
  pub free : HasNoRule t

abbrev pub IsStoreTable : SqlTable → Type 0
IsStoreTable t = (table : StoreTable) × IsTableOf t table

pub record IsStoreSchema (schema : Schema) : Type 0 where
  pub tables : AllByRecursion IsStoreTable schema.tables
  pub indexes : schema.indexes ≡ []

-- each table has a tree
abbrev pub AreStoreTrees : (ℕ → Shape) → Type 0
AreStoreTrees shape =
    (shape 0 ≡ TableTree) × (shape 1 ≡ TableTree) × (shape 2 ≡ TableTree)
    × (shape 3 ≡ TableTree) × (shape 4 ≡ TableTree)
