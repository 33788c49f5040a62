-- The rows that each change makes of others.
use Rattle.std.specs.Prelude.{ℕ, ◌≡◌, ◌<◌, ◌↔◌, ℤ, pos, All, List, Option, Some, None, fold, ⊤}
use Rattle.sqlite_value.specs.Order.{Row}
use Rattle.sqlite_trees.specs.Tree.{Trees, put_row, with_tree, without_rowid}
use Rattle.sqlite_trees.specs.declared.store.Store.{Ghosts}
use Rattle.desk_store.specs.RowStores.{CanStore, IsStoreOpen, kept_in, now_in, reals_in}
use Rattle.desk_store.specs.Tables.{tree_of}
use Rattle.desk_store.specs.declared.table.StoreTable.{StoreTable}
use Rattle.desk_store.specs.declared.table.StoreTable.TheVariants.{Tenant, Job, Outcome, Desk, Key}
use Rattle.desk_records.specs.Columns.{id_of, most_numbers}
use Rattle.desk_records.specs.Records.{IsNarrowDesk, IsNarrowJob, IsNarrowKey, IsNarrowOutcome, IsNarrowTenant, desk_row, key_row, outcome_row, job_row, tenant_row}
use Rattle.desk_records.specs.declared.stored_change.NotedKey.{NotedKey}
use Rattle.desk_records.specs.declared.stored_change.StoredChange.{StoredChange}
use Rattle.desk_records.specs.declared.stored_change.StoredChange.TheVariants.{Granted, Taken, Settled, Forgotten}

-- a row is in its place, and in place of one that has its key
abbrev pub with_row : Trees → StoreTable → Row → Trees
with_row db table row = with_tree db (tree_of table) (put_row row (db (tree_of table)))

-- no row has this key
abbrev pub without_row : Trees → StoreTable → ℤ → Trees
without_row db table key = with_tree db (tree_of table) (without_rowid key (db (tree_of table)))

-- a job's rows are gone
abbrev pub without_rows : Trees → ℤ → Trees
without_rows db id = without_row (without_row db Job id) Outcome id

-- no job of these numbers has a row
abbrev pub without_jobs : Trees → ℕ → List ℕ → Trees
without_jobs db desk = fold (λ rows number. without_rows rows (pos (id_of desk number))) db

-- a key that is not remembered any more has no row
abbrev pub without_dropped : Trees → ℕ → Option ℕ → Trees
without_dropped db desk None = db
without_dropped db desk (Some number) = without_row db Key (pos (id_of desk number))

-- a key has its row, and the one that it took the place of has none
abbrev pub with_noted : Trees → Option NotedKey → Trees
with_noted db None = db
with_noted db (Some k) = without_dropped (with_row db Key (key_row k.key)) k.key.desk k.dropped

-- A grant is a row, a job one, and its key another, an end that of the outcome and that of the
-- tenant. Of a job that is forgotten no row is left but its key's.
abbrev pub changed : Trees → StoredChange → Trees
changed db (Granted tenant) = with_row db Tenant (tenant_row tenant)
changed db (Taken t) = with_noted (with_row db Job (job_row t.job)) t.key
changed db (Settled s) =
    with_row (with_row db Outcome (outcome_row s.outcome)) Tenant (tenant_row s.tenant)
changed db (Forgotten f) =
    with_row (without_jobs db f.desk.desk f.numbers.items) Desk (desk_row f.desk)

-- the first of them first
abbrev pub all_changed : Trees → List StoredChange → Trees
all_changed = fold changed

-- the numbers of a change are within what a row holds
abbrev pub IsNarrowDropped : Option ℕ → Type 0
IsNarrowDropped None = ⊤
IsNarrowDropped (Some number) = number < most_numbers

abbrev pub IsNarrowNoted : Option NotedKey → Type 0
IsNarrowNoted None = ⊤
IsNarrowNoted (Some k) = IsNarrowKey k.key × IsNarrowDropped k.dropped

abbrev pub IsNarrowNumber : ℕ → Type 0
IsNarrowNumber number = number < most_numbers

abbrev pub IsNarrowChange : StoredChange → Type 0
IsNarrowChange (Granted tenant) = IsNarrowTenant tenant
IsNarrowChange (Taken t) = IsNarrowJob t.job × IsNarrowNoted t.key
IsNarrowChange (Settled s) = IsNarrowOutcome s.outcome × IsNarrowTenant s.tenant
IsNarrowChange (Forgotten f) = All IsNarrowNumber f.numbers.items × IsNarrowDesk f.desk

-- files whose columns are so can hold the row of a key
abbrev pub CanNote : (ℕ → ℕ) → Option NotedKey → Type 0
CanNote reals None = ⊤
CanNote reals (Some k) =
    IsNarrowKey k.key × CanStore reals Key (key_row k.key) × IsNarrowDropped k.dropped

-- and the rows of a change
abbrev pub CanWrite : (ℕ → ℕ) → StoredChange → Type 0
CanWrite reals (Granted t) = IsNarrowTenant t × CanStore reals Tenant (tenant_row t)
CanWrite reals (Taken t) =
    IsNarrowJob t.job × CanStore reals Job (job_row t.job) × CanNote reals t.key
CanWrite reals (Settled s) =
    IsNarrowOutcome s.outcome × CanStore reals Outcome (outcome_row s.outcome)
    × IsNarrowTenant s.tenant × CanStore reals Tenant (tenant_row s.tenant)
CanWrite reals (Forgotten f) =
    All IsNarrowNumber f.numbers.items × IsNarrowDesk f.desk
    × CanStore reals Desk (desk_row f.desk)

module _ {S : Type 0} (g : Ghosts S) where
  -- the batch sees these rows, nothing was committed, and the store is open if it was
  pub record GoesOn (old new : S) (rows : Trees) : Type 0 where
    pub now_is : now_in g new ≡ rows
    pub kept_is : kept_in g new ≡ kept_in g old
    pub opens : IsStoreOpen g old ↔ IsStoreOpen g new
    pub reals_are : reals_in g new ≡ reals_in g old
