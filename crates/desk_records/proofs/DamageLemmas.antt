-- Damage that is told is of a row that no record has, so that no records are stored.
use Rattle.std.proofs.Common.{All, ◌≡◌, ℤ, List, [], ◌∷◌, ◌++◌, map, sym, subst, ◌∙◌}
use Rattle.std.proofs.lemmas.List.Elements.{All-head, All-tail}
use Rattle.sqlite_value.specs.Order.{Row}
use Rattle.sqlite_trees.specs.Tree.{Trees}
use Rattle.desk_store.specs.Loading.{HasDamage, IsDamage}
use Rattle.desk_store.specs.Tables.{tree_of}
use Rattle.desk_store.specs.declared.fault.LoadFault.{LoadFault}
use Rattle.desk_store.specs.declared.fault.LoadFault.TheVariants.{Store, Damaged}
use Rattle.desk_store.specs.declared.table.StoreTable.{StoreTable}
use Rattle.desk_store.specs.declared.table.StoreTable.TheVariants.{Tenant, Job, Outcome, Desk, Key}
use Rattle.desk_records.specs.Records.{IsNarrowDesk, IsNarrowJob, IsNarrowKey, IsNarrowOutcome, IsNarrowTenant, desk_row, key_row, outcome_row, job_row, tenant_row}
use Rattle.desk_records.specs.Stored.{Explains, HoldsNone, IsNobodys}

nobody_has : {R : Type 0} (row : R → Row) (is_narrow : R → Type 0) (here : Row) (before behind : List Row) → ((it : R) → is_narrow it → row it ≡ here → ⊥) → (all : List R) → All is_narrow all
    → before ++ here ∷ behind ≡ map row all → ⊥
nobody_has row is_narrow here [] behind nobody [] narrow same = absurd (cc)
nobody_has row is_narrow here [] behind nobody (it ∷ all) narrow same = nobody it (All-head is_narrow it all narrow) (cc same)
nobody_has row is_narrow here (b ∷ before) behind nobody [] narrow same = absurd (cc)
nobody_has row is_narrow here (b ∷ before) behind nobody (it ∷ all) narrow same = nobody_has row is_narrow here before behind nobody all (All-tail is_narrow it all narrow) (cc same)

none_has : {R : Type 0} (row : R → Row) (is_narrow : R → Type 0) (rows : List Row) (key : ℤ) → HasDamage row is_narrow rows key → (all : List R) → All is_narrow all → rows ≡ map row all → ⊥
none_has row is_narrow rows key d all narrow same = nobody_has row is_narrow d.here d.before d.behind d.nobody all narrow (sym d.among ∙ same)

module _ (db : Trees) where
  told : (of table : StoreTable) (key : ℤ) → table ≡ of → IsNobodys db of key → HoldsNone db → Explains db (Damaged table key)
  told of table key is nobody none = (subst (λ t. IsNobodys db t key) (sym is) nobody, none)

  pub tenants_explain : (fault : LoadFault) → IsDamage Tenant tenant_row IsNarrowTenant (db (tree_of Tenant)) fault → Explains db fault
  tenants_explain (Store error) damage = tt
  tenants_explain (Damaged table key) damage = told Tenant table key damage.0 damage.1 (λ l narrow stored. none_has tenant_row IsNarrowTenant _ key damage.1 l.tenants narrow.tenants stored.tenants)

  pub jobs_explain : (fault : LoadFault) → IsDamage Job job_row IsNarrowJob (db (tree_of Job)) fault → Explains db fault
  jobs_explain (Store error) damage = tt
  jobs_explain (Damaged table key) damage = told Job table key damage.0 damage.1 (λ l narrow stored. none_has job_row IsNarrowJob _ key damage.1 l.jobs narrow.jobs stored.jobs)

  pub outcomes_explain : (fault : LoadFault) → IsDamage Outcome outcome_row IsNarrowOutcome (db (tree_of Outcome)) fault → Explains db fault
  outcomes_explain (Store error) damage = tt
  outcomes_explain (Damaged table key) damage = told Outcome table key damage.0 damage.1 (λ l narrow stored. none_has outcome_row IsNarrowOutcome _ key damage.1 l.outcomes narrow.outcomes stored.outcomes)

  pub desks_explain : (fault : LoadFault) → IsDamage Desk desk_row IsNarrowDesk (db (tree_of Desk)) fault → Explains db fault
  desks_explain (Store error) damage = tt
  desks_explain (Damaged table key) damage = told Desk table key damage.0 damage.1 (λ l narrow stored. none_has desk_row IsNarrowDesk _ key damage.1 l.desks narrow.desks stored.desks)

  pub keys_explain : (fault : LoadFault) → IsDamage Key key_row IsNarrowKey (db (tree_of Key)) fault → Explains db fault
  keys_explain (Store error) damage = tt
  keys_explain (Damaged table key) damage = told Key table key damage.0 damage.1 (λ l narrow stored. none_has key_row IsNarrowKey _ key damage.1 l.keys narrow.keys stored.keys)
