-- An edit of rows is the same edit of records.
use Rattle.std.proofs.Common.{All, ◌≡◌, ℕ, ℤ, pos, Option, Some, None, true, false, not, List, [], ◌∷◌, map, refl, sym, ap, ◌∙◌, Less, Equal, Greater, int_cmp, int_eq, cond}
use Rattle.std.proofs.lemmas.List.Elements.{All-cons, All-head, All-tail}
use Rattle.std.specs.Ordering.{match_ordering, is_eq}
use Rattle.sqlite_value.specs.declared.value.Value.TheVariants.{Int}
use Rattle.sqlite_value.specs.Order.{Row, value_cmp}
use Rattle.sqlite_value.proofs.OrderLemmas.{value_cmp-Int}
use Rattle.sqlite_trees.specs.Tree.{Trees, has_rowid, put_row, rowid, without_rowid}
use Rattle.sqlite_keyed.specs.Keyed.{insert_by}
use Rattle.sqlite_keyed.specs.Lists.{without_key}
use Rattle.desk_records.specs.Changes.{IsNarrowChange, IsNarrowNoted, all_changed, changed, with_noted, with_row, without_dropped, without_jobs, without_rows}
use Rattle.desk_records.specs.Columns.{id_of}
use Rattle.desk_records.specs.Made.{all_made, desk_key, jobs_left, key_id, keys_but, keys_noted, made, outcome_key, outcomes_left, stored_job_key, tenant_key}
use Rattle.desk_records.specs.RecordLemmas.{desk_back, job_back, key_back, outcome_back, tenant_back}
use Rattle.desk_records.specs.Records.{IsNarrowDesk, IsNarrowJob, IsNarrowKey, IsNarrowOutcome, IsNarrowTenant, desk_of_row, desk_row, job_of_row, job_row, key_of_row, key_row, outcome_of_row, outcome_row, tenant_of_row, tenant_row}
use Rattle.desk_records.specs.Stored.{AreNarrow, IsStored, Ledgers}
use Rattle.desk_store.specs.declared.table.StoreTable.TheVariants.{Desk, Job, Key}
use Rattle.desk_records.specs.declared.stored_change.NotedKey.{NotedKey}
use Rattle.desk_records.specs.declared.stored_change.StoredChange.{StoredChange}
use Rattle.desk_records.specs.declared.stored_job.StoredJob.{StoredJob}
use Rattle.desk_records.specs.declared.stored_key.StoredKey.{StoredKey}
use Rattle.desk_records.specs.declared.stored_outcome.StoredOutcome.{StoredOutcome}
use Rattle.desk_records.specs.declared.stored_change.StoredChange.TheVariants.{Granted, Taken, Settled, Forgotten}

module _ {R : Type 0} (row : R → Row) (key : R → ℤ) (keyed : (it : R) → rowid (row it) ≡ Int (key it)) where
  compares : (a b : R) → value_cmp (rowid (row a)) (rowid (row b)) ≡ int_cmp (key a) (key b)
  compares a b = rw (keyed a, keyed b) (value_cmp-Int (key a) (key b))

  put_is : (it : R) (all : List R) → put_row (row it) (map row all) ≡ map row (insert_by key all it)
  put_is it [] = refl
  put_is it (r ∷ all) =
      rw (compares r it, put_is it all)
      (elim (int_cmp (key r) (key it)) as (λ o. match_ordering o (row r ∷ map row (insert_by key all it)) (row it ∷ map row all) (row it ∷ row r ∷ map row all)
      ≡ map row (match_ordering o (r ∷ insert_by key all it) (it ∷ all) (it ∷ r ∷ all))) [ Less ↦ refl | Equal ↦ refl | Greater ↦ refl ])

  has_is : (r : R) (id : ℤ) → has_rowid id (row r) ≡ int_eq (key r) id
  has_is r id = ap (λ v. is_eq (value_cmp v (Int id))) (keyed r) ∙ ap is_eq (value_cmp-Int (key r) id)

  remove_is : (id : ℤ) (all : List R) → without_rowid id (map row all) ≡ map row (without_key key all id)
  remove_is id [] = refl
  remove_is id (r ∷ all) =
      rw (has_is r id, remove_is id all)
      (elim (int_eq (key r) id) as (λ b. cond (not b) (row r ∷ map row (without_key key all id)) (map row (without_key key all id)) ≡ map row (cond (not b) (r ∷ without_key key all id) (without_key key all id))) [ true ↦ refl | false ↦ refl ])

-- the rows of jobs that are forgotten are gone, and no other ones
forgotten_stored : (db : Trees) (l : Ledgers) (desk : ℕ) (numbers : List ℕ) → IsStored db l
    → IsStored (without_jobs db desk numbers) (record l { jobs = jobs_left desk l.jobs numbers; outcomes = outcomes_left desk l.outcomes numbers })
forgotten_stored db l desk [] s = record { tenants = s.tenants; jobs = s.jobs; outcomes = s.outcomes; desks = s.desks; keys = s.keys }
forgotten_stored db l desk (number ∷ numbers) s =
    let key = pos (id_of desk number) in
    forgotten_stored (without_rows db key) (record l { jobs = without_key stored_job_key l.jobs key; outcomes = without_key outcome_key l.outcomes key }) desk numbers
    (record {
      tenants = s.tenants;
      jobs = ap (without_rowid key) s.jobs ∙ remove_is job_row stored_job_key (λ it. refl) key l.jobs;
      outcomes = ap (without_rowid key) s.outcomes ∙ remove_is outcome_row outcome_key (λ it. refl) key l.outcomes;
      desks = s.desks;
      keys = s.keys;
    })

key_there : (db : Trees) (l : Ledgers) (k : StoredKey) → IsStored db l → IsStored (with_row db Key (key_row k)) (record l { keys = insert_by key_id l.keys k })
key_there db l k s = record { tenants = s.tenants; jobs = s.jobs; outcomes = s.outcomes; desks = s.desks; keys = ap (put_row (key_row k)) s.keys ∙ put_is key_row key_id (λ it. refl) k l.keys }

key_dropped : (db : Trees) (l : Ledgers) (desk : ℕ) (dropped : Option ℕ) → IsStored db l → IsStored (without_dropped db desk dropped) (record l { keys = keys_but desk l.keys dropped })
key_dropped db l desk None s = record { tenants = s.tenants; jobs = s.jobs; outcomes = s.outcomes; desks = s.desks; keys = s.keys }
key_dropped db l desk (Some number) s = record {
  tenants = s.tenants;
  jobs = s.jobs;
  outcomes = s.outcomes;
  desks = s.desks;
  keys = ap (without_rowid _) s.keys ∙ remove_is key_row key_id (λ it. refl) _ l.keys;
}

noted_stored : (db : Trees) (l : Ledgers) (key : Option NotedKey) → IsStored db l → IsStored (with_noted db key) (record l { keys = keys_noted l.keys key })
noted_stored db l None s = record { tenants = s.tenants; jobs = s.jobs; outcomes = s.outcomes; desks = s.desks; keys = s.keys }
noted_stored db l (Some k) s = key_dropped (with_row db Key (key_row k.key)) (record l { keys = insert_by key_id l.keys k.key }) k.key.desk k.dropped (key_there db l k.key s)

pub made_stored : (db : Trees) (l : Ledgers) (change : StoredChange) → IsStored db l → IsStored (changed db change) (made l change)
made_stored db l (Granted t) s = record { tenants = ap (put_row (tenant_row t)) s.tenants ∙ put_is tenant_row tenant_key (λ it. refl) t l.tenants; jobs = s.jobs; outcomes = s.outcomes; desks = s.desks; keys = s.keys }
made_stored db l (Taken t) s =
    noted_stored (with_row db Job (job_row t.job)) (record l { jobs = insert_by stored_job_key l.jobs t.job }) t.key
    (record { tenants = s.tenants; jobs = ap (put_row (job_row t.job)) s.jobs ∙ put_is job_row stored_job_key (λ it. refl) t.job l.jobs; outcomes = s.outcomes; desks = s.desks; keys = s.keys })
made_stored db l (Settled e) s = record {
  tenants = ap (put_row (tenant_row e.tenant)) s.tenants ∙ put_is tenant_row tenant_key (λ it. refl) e.tenant l.tenants;
  jobs = s.jobs;
  outcomes = ap (put_row (outcome_row e.outcome)) s.outcomes ∙ put_is outcome_row outcome_key (λ it. refl) e.outcome l.outcomes;
  desks = s.desks;
  keys = s.keys;
}
made_stored db l (Forgotten f) s =
    let gone = forgotten_stored db l f.desk.desk f.numbers.items s in record {
      tenants = gone.tenants;
      jobs = gone.jobs;
      outcomes = gone.outcomes;
      desks = ap (put_row (desk_row f.desk)) gone.desks ∙ put_is desk_row desk_key (λ it. refl) f.desk l.desks;
      keys = gone.keys;
    }

pub all_made_stored : (db : Trees) (l : Ledgers) (changes : List StoredChange) → IsStored db l → IsStored (all_changed db changes) (all_made l changes)
all_made_stored db l [] s = s
all_made_stored db l (change ∷ changes) s = all_made_stored (changed db change) (made l change) changes (made_stored db l change s)

-- ---- one set of records

same_records : {R : Type 0} (row : R → Row) (in_row : Row → R) (P : R → Type 0) → ((it : R) → P it → in_row (row it) ≡ it) → (xs : List R) → All P xs → map in_row (map row xs) ≡ xs
same_records row in_row P back [] each = refl
same_records row in_row P back (x ∷ xs) each = rw (back x (All-head P x xs each), same_records row in_row P back xs (All-tail P x xs each)) refl

both_same : {R : Type 0} (row : R → Row) (in_row : Row → R) (P : R → Type 0) → ((it : R) → P it → in_row (row it) ≡ it) → (rows : List Row) (xs ys : List R) → All P xs → All P ys → rows ≡ map row xs → rows ≡ map row ys → xs ≡ ys
both_same row in_row P back rows xs ys one two is are =
    sym (same_records row in_row P back xs one) ∙ ap (map in_row) (sym is ∙ are) ∙ same_records row in_row P back ys two

pub one_set : (db : Trees) (l m : Ledgers) → AreNarrow l → AreNarrow m → IsStored db l → IsStored db m → l ≡ m
one_set db l m one two s t =
    let tenants = both_same tenant_row tenant_of_row IsNarrowTenant tenant_back _ l.tenants m.tenants one.tenants two.tenants s.tenants t.tenants in
    let jobs = both_same job_row job_of_row IsNarrowJob job_back _ l.jobs m.jobs one.jobs two.jobs s.jobs t.jobs in
    let outcomes = both_same outcome_row outcome_of_row IsNarrowOutcome outcome_back _ l.outcomes m.outcomes one.outcomes two.outcomes s.outcomes t.outcomes in
    let desks = both_same desk_row desk_of_row IsNarrowDesk desk_back _ l.desks m.desks one.desks two.desks s.desks t.desks in
    let keys = both_same key_row key_of_row IsNarrowKey key_back _ l.keys m.keys one.keys two.keys s.keys t.keys in
    λ i. record { tenants = tenants i; jobs = jobs i; outcomes = outcomes i; desks = desks i; keys = keys i }

-- ---- narrow numbers stay narrow

module _ {R : Type 0} (P : R → Type 0) (key : R → ℤ) where
  pub all_insert : (xs : List R) (x : R) → All P xs → P x → All P (insert_by key xs x)
  all_insert [] x each here = All-cons P x [] here each
  all_insert (y ∷ ys) x each here =
      let front = All-head P y ys each in
      let behind = All-tail P y ys each in
      elim (int_cmp (key y) (key x)) as (λ o. All P (match_ordering o (y ∷ insert_by key ys x) (x ∷ ys) (x ∷ y ∷ ys))) [
        | Less ↦ All-cons P y _ front (all_insert ys x behind here)
        | Equal ↦ All-cons P x ys here behind
        | Greater ↦ All-cons P x (y ∷ ys) here each
      ]

  pub all_without : (xs : List R) (id : ℤ) → All P xs → All P (without_key key xs id)
  all_without [] id each = each
  all_without (y ∷ ys) id each =
      let behind = all_without ys id (All-tail P y ys each) in
      elim (int_eq (key y) id) as (λ b. All P (cond (not b) (y ∷ without_key key ys id) (without_key key ys id))) [
        | true ↦ behind
        | false ↦ All-cons P y _ (All-head P y ys each) behind
      ]

narrow_jobs : (desk : ℕ) (jobs : List StoredJob) (numbers : List ℕ) → All IsNarrowJob jobs → All IsNarrowJob (jobs_left desk jobs numbers)
narrow_jobs desk jobs [] each = each
narrow_jobs desk jobs (number ∷ numbers) each = narrow_jobs desk (without_key stored_job_key jobs (pos (id_of desk number))) numbers (all_without IsNarrowJob stored_job_key jobs (pos (id_of desk number)) each)

narrow_outcomes : (desk : ℕ) (outcomes : List StoredOutcome) (numbers : List ℕ) → All IsNarrowOutcome outcomes → All IsNarrowOutcome (outcomes_left desk outcomes numbers)
narrow_outcomes desk outcomes [] each = each
narrow_outcomes desk outcomes (number ∷ numbers) each =
    narrow_outcomes desk (without_key outcome_key outcomes (pos (id_of desk number))) numbers (all_without IsNarrowOutcome outcome_key outcomes (pos (id_of desk number)) each)

narrow_left : (desk : ℕ) (keys : List StoredKey) (dropped : Option ℕ) → All IsNarrowKey keys → All IsNarrowKey (keys_but desk keys dropped)
narrow_left desk keys None each = each
narrow_left desk keys (Some number) each = all_without IsNarrowKey key_id keys (pos (id_of desk number)) each

narrow_keys : (keys : List StoredKey) (key : Option NotedKey) → All IsNarrowKey keys → IsNarrowNoted key → All IsNarrowKey (keys_noted keys key)
narrow_keys keys None each here = each
narrow_keys keys (Some k) each here = narrow_left k.key.desk (insert_by key_id keys k.key) k.dropped (all_insert IsNarrowKey key_id keys k.key each here.0)

pub narrow_made : (l : Ledgers) (change : StoredChange) → AreNarrow l → IsNarrowChange change → AreNarrow (made l change)
narrow_made l (Granted t) n c = record { tenants = all_insert IsNarrowTenant tenant_key l.tenants t n.tenants c; jobs = n.jobs; outcomes = n.outcomes; desks = n.desks; keys = n.keys }
narrow_made l (Taken t) n c = record { tenants = n.tenants; jobs = all_insert IsNarrowJob stored_job_key l.jobs t.job n.jobs c.0; outcomes = n.outcomes; desks = n.desks; keys = narrow_keys l.keys t.key n.keys c.1 }
narrow_made l (Settled s) n c = record {
  tenants = all_insert IsNarrowTenant tenant_key l.tenants s.tenant n.tenants c.1;
  jobs = n.jobs;
  outcomes = all_insert IsNarrowOutcome outcome_key l.outcomes s.outcome n.outcomes c.0;
  desks = n.desks;
  keys = n.keys;
}
narrow_made l (Forgotten f) n c = record {
  tenants = n.tenants;
  jobs = narrow_jobs f.desk.desk l.jobs f.numbers.items n.jobs;
  outcomes = narrow_outcomes f.desk.desk l.outcomes f.numbers.items n.outcomes;
  desks = all_insert IsNarrowDesk desk_key l.desks f.desk n.desks c.1;
  keys = n.keys;
}

pub all_narrow_made : (l : Ledgers) (changes : List StoredChange) → AreNarrow l → All IsNarrowChange changes → AreNarrow (all_made l changes)
all_narrow_made l [] n each = n
all_narrow_made l (change ∷ changes) n each =
    all_narrow_made (made l change) changes (narrow_made l change n (All-head IsNarrowChange change changes each)) (All-tail IsNarrowChange change changes each)
