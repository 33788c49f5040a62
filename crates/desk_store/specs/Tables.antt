-- The tables of a file, and the rows that they may hold.
use Rattle.std.specs.Prelude.{ℕ, ℤ, ◌≡◌, Bool, true, false, not, ◌&&◌, ◌||◌, List, [], ◌∷◌, codes}
use Rattle.sqlite_value.specs.declared.value.Value.{Value}
use Rattle.sqlite_value.specs.declared.value.Value.TheVariants.{Null, Int}
use Rattle.sqlite_value.specs.Order.{Row}
use Rattle.sqlite_sql.specs.Ops.{is_null}
use Rattle.sqlite_trees.specs.declared.error.StoreError.{StoreError}
use Rattle.sqlite_trees.specs.declared.error.StoreError.TheVariants.{OutOfMemory, Unstorable}
use Rattle.sqlite_schema.specs.declared.schema.Kind.{Kind}
use Rattle.sqlite_schema.specs.declared.schema.Kind.TheVariants as kind
use Rattle.sqlite_schema.specs.Rules.{is_of}
use Rattle.desk_store.specs.declared.table.ColumnForm.{ColumnForm}
use Rattle.desk_store.specs.declared.table.StoreTable.{StoreTable}
use Rattle.desk_store.specs.declared.table.StoreTable.TheVariants.{Tenant, Job, Outcome, Desk, Key}

abbrev pub tree_of : StoreTable → ℕ
tree_of Tenant = 0
tree_of Job = 1
tree_of Outcome = 2
tree_of Desk = 3
tree_of Key = 4

abbrev pub table_name : StoreTable → List ℕ
table_name Tenant = codes "tenant"
table_name Job = codes "job"
table_name Outcome = codes "outcome"
table_name Desk = codes "desk"
table_name Key = codes "job_key"

abbrev pub required : Kind → ColumnForm
required kind = record { kind = kind; may_be_null = false }

abbrev pub optional : Kind → ColumnForm
optional kind = record { kind = kind; may_be_null = true }

-- The columns behind the key. Of a tenant: desk, name, granted and spent. Of a job: desk, number,
-- tenant, credit, programs and buffer. Of an outcome: desk, number, code, spent, returned, buffer
-- and tasks. Of a desk: taken. Of a job's key: desk, number and key.
abbrev pub columns_of : StoreTable → List ColumnForm
columns_of Tenant =
    required kind.Integer ∷ required kind.Text ∷ required kind.Integer ∷ required kind.Integer ∷ []
columns_of Job =
    required kind.Integer ∷ required kind.Integer ∷ required kind.Text ∷ required kind.Integer
    ∷ required kind.Blob ∷ required kind.Blob ∷ []
columns_of Outcome =
    required kind.Integer ∷ required kind.Integer ∷ optional kind.Integer ∷ optional kind.Integer
    ∷ optional kind.Integer ∷ optional kind.Blob ∷ optional kind.Blob ∷ []
columns_of Desk = required kind.Integer ∷ []
columns_of Key = required kind.Integer ∷ required kind.Integer ∷ required kind.Text ∷ []

-- a value of the column's type
abbrev pub suits_form : ColumnForm → Value → Bool
suits_form form v = is_of form.kind v && (form.may_be_null || not (is_null v))

-- a value for each column
abbrev pub fits : List ColumnForm → List Value → Bool
fits [] [] = true
fits [] (v ∷ vs) = false
fits (form ∷ forms) [] = false
fits (form ∷ forms) (v ∷ vs) = suits_form form v && fits forms vs

-- memory is wanting, or something can't be stored: no disk has failed
abbrev pub is_plain : StoreError → Bool
is_plain OutOfMemory = true
is_plain Unstorable = true
is_plain other = false

-- a row of the table: its key, NULL in the column that stands for it, and the other columns
pub record IsRowOf (table : StoreTable) (row : Row) : Type 0 where
  pub key : ℤ
  pub values : List Value
  pub is : row ≡ Int key ∷ Null ∷ values
  pub fit : fits (columns_of table) values ≡ true
