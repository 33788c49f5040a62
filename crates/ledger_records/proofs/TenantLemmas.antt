-- A tenant's row has its number alone.
use Rattle.std.proofs.Common.{◌++◌, ◌⊎◌, pos, int_cmp, Less, Equal, inl, inr, slice_set, ◌≡◌, ◌+◌, ◌<◌, ◌==◌, ◌&&◌, ℕ, zero, suc, All, Bool, true, false, cond, List, [], ◌∷◌, find, length, get_or, slice_get, option_map, unwrap_or, Option, Some, None, Result, refl, sym, ap, subst, ◌∙◌, arith}
use Rattle.std.proofs.lemmas.Bool.Decides.{nat_tests}
use Rattle.std.proofs.lemmas.Bool.{cases_eq}
use Rattle.std.proofs.lemmas.Option.{slice_get_within, get_or_from_slice_get}
use Rattle.std.proofs.lemmas.Slice.Eq.{bytes_eq-Decides}
use Rattle.std.specs.Str.{bytes_eq}
use Rattle.desk_records.specs.Stored.{Ledgers}
use Rattle.accounts.specs.Jobs.{settled, spent_by_job}
use Rattle.accounts.specs.declared.jobs.JobStanding.{JobStanding}
use Rattle.accounts.specs.declared.jobs.JobStanding.TheVariants as stands
use Rattle.credit_book.specs.declared.book.Report.{Report}
use Rattle.desk_records.specs.declared.stored_change.SettledJob.{SettledJob}
use Rattle.desk_records.specs.declared.stored_job.StoredJob.{StoredJob}
use Rattle.desk_records.specs.declared.stored_outcome.StoredResult.{StoredResult}
use Rattle.desk_records.specs.declared.stored_outcome.StoredResult.TheVariants as stored
use Rattle.desk_records.specs.declared.stored_tenant.StoredTenant.{StoredTenant}
use Rattle.ledger_records.specs.ChangedRows.{AreRowsOfEnd, IsRowOfGrant}
use Rattle.ledger_records.specs.LedgerRecords.{CameTo, HasItsNumber, is_tenant, job_record, tenant_named}
use Rattle.ledger_records.specs.TenantRows.{AreTenantRows, IsRowOfCost, spent_of_result}
use Rattle.sqlite_keyed.specs.Keyed.{insert_by}
use Rattle.sqlite_keyed.proofs.KeyedLemmas.{Less-from_lt}
use Rattle.std.proofs.lemmas.Int.{ints}
use Rattle.desk_records.specs.Made.{tenant_key}
use Rattle.ledger_records.proofs.Finding.{set_here, set_other, tenant_found}
use Rattle.ledger_records.proofs.OrderLemmas.{pushed_at}

there : {X : Type 0} (xs : List X) (k : ℕ) (d : X) → k < length xs → slice_get xs k ≡ Some (get_or xs k d)
there [] k d within = absurd (omega (arith, within))
there (x ∷ xs) zero d within = refl
there (x ∷ xs) (suc k) d within = there xs k d (omega (arith, within))

-- what is found has a place
found_at : {X : Type 0} (p : X → Bool) (xs : List X) (x : X) → find p xs ≡ Some x → (i : ℕ) × (slice_get xs i ≡ Some x)
found_at p [] x is = absurd (cc)
found_at p (y ∷ ys) x is = go (p y) refl is (found_at p ys x)
  where
    go : (b : Bool) → p y ≡ b → cond b (Some y) (find p ys) ≡ Some x → (find p ys ≡ Some x → (i : ℕ) × (slice_get ys i ≡ Some x)) → (i : ℕ) × (slice_get (y ∷ ys) i ≡ Some x)
    go true here is more = (zero, is)
    go false here is more = let later = more is in (suc later.0, later.1)

-- what isn't found is nowhere
found_none : {X : Type 0} (p : X → Bool) (xs : List X) (i : ℕ) (x : X) → find p xs ≡ None → slice_get xs i ≡ Some x → p x ≡ true → ⊥
found_none p [] i x none at is = absurd (cc)
found_none p (y ∷ ys) zero x none at is = let same : y ≡ x = cc at in let here : p y ≡ true = ap p same ∙ is in absurd (cc (ap (λ b. cond b (Some y) (find p ys)) here, none))
found_none p (y ∷ ys) (suc i) x none at is = go (p y) none (λ later. found_none p ys i x later at is)
  where
    go : (b : Bool) → cond b (Some y) (find p ys) ≡ None → (find p ys ≡ None → ⊥) → ⊥
    go true none more = absurd (cc)
    go false none more = more none

tenant_test : (desk : ℕ) (name : List ℕ) (t : StoredTenant) → t.desk ≡ desk → t.name ≡ name → is_tenant desk name t ≡ true
tenant_test desk name t at named =
    let own : (t.desk == desk) ≡ true = grind (arith, nat_tests) in
    let same : bytes_eq t.name name ≡ true = (bytes_eq-Decides t.name name).1 named in
    rw (own, same) refl

none_more : (n : ℕ) → n ≡ 0 + n
none_more n = omega arith

module _ (rows : List StoredTenant) (are : AreTenantRows rows) where
  known_number : (r t : StoredTenant) (i : ℕ) → slice_get rows i ≡ Some r → t.number ≡ r.number → t.desk ≡ r.desk → t.name ≡ r.name → HasItsNumber rows t
  known_number r t i at number desk name = record {
    same = λ k d lt numbered.
        let o : StoredTenant = get_or rows k d in
        let here : slice_get rows k ≡ Some o = there rows k d lt in
        let place : k ≡ i = sym (are.numbered k o here) ∙ numbered ∙ number ∙ are.numbered i r at in
        let one : Some o ≡ Some r = sym here ∙ ap (slice_get rows) place ∙ at in
        let is : o ≡ r = cc one in (ap (λ (x : StoredTenant). x.desk) is ∙ sym desk, ap (λ (x : StoredTenant). x.name) is ∙ sym name);
    alone = λ k d lt own named.
        let o : StoredTenant = get_or rows k d in
        let here : slice_get rows k ≡ Some o = there rows k d lt in
        let place : k ≡ i = are.apart k i o r here at (own ∙ desk) (named ∙ name) in
        are.numbered k o here ∙ place ∙ sym (are.numbered i r at) ∙ sym number;
  }

  new_number : (t : StoredTenant) → find (is_tenant t.desk t.name) rows ≡ None → t.number ≡ length rows → HasItsNumber rows t
  new_number t none number = record {
    same = λ k d lt numbered. let low = are.numbered k (get_or rows k d) (there rows k d lt) in absurd (omega (arith, lt, numbered, number, low));
    alone = λ k d lt own named. absurd (found_none (is_tenant t.desk t.name) rows k (get_or rows k d) none (there rows k d lt) (tenant_test t.desk t.name (get_or rows k d) own named));
  }

  pub known_granted : (desk : ℕ) (name : List ℕ) (amount : ℕ) (r t : StoredTenant) → find (is_tenant desk name) rows ≡ Some r → t.number ≡ r.number → t.desk ≡ desk → t.name ≡ name → t.granted ≡ r.granted + amount → t.spent ≡ r.spent → (l : Ledgers) → l.tenants ≡ rows → IsRowOfGrant desk l name amount t
  known_granted desk name amount r t is number at named granted spent l same =
      let owner = tenant_found desk name rows r is in
      let place = found_at (is_tenant desk name) rows r is in
      let found : tenant_named l desk name ≡ Some r = ap (find (is_tenant desk name)) same ∙ is in record {
        at = at;
        named = named;
        granted = granted ∙ sym (ap (λ o. unwrap_or (option_map (λ (x : StoredTenant). x.granted) o) 0 + amount) found);
        spent = spent ∙ sym (ap (λ o. unwrap_or (option_map (λ (x : StoredTenant). x.spent) o) 0) found);
        numbered = subst (λ (ts : List StoredTenant). HasItsNumber ts t) (sym same) (known_number r t place.0 place.1 number (at ∙ sym owner.0) (named ∙ sym owner.1));
      }

  pub new_granted : (desk : ℕ) (name : List ℕ) (amount : ℕ) (t : StoredTenant) → find (is_tenant desk name) rows ≡ None → t.number ≡ length rows → t.desk ≡ desk → t.name ≡ name → t.granted ≡ amount → t.spent ≡ 0 → (l : Ledgers) → l.tenants ≡ rows → IsRowOfGrant desk l name amount t
  new_granted desk name amount t none number at named granted spent l same =
      let found : tenant_named l desk name ≡ None = ap (find (is_tenant desk name)) same ∙ none in
      let mine : find (is_tenant t.desk t.name) rows ≡ None = ap (λ (d : ℕ). find (is_tenant d t.name) rows) at ∙ ap (λ (n : List ℕ). find (is_tenant desk n) rows) named ∙ none in record {
        at = at;
        named = named;
        granted = granted ∙ none_more amount ∙ sym (ap (λ o. unwrap_or (option_map (λ (x : StoredTenant). x.granted) o) 0 + amount) found);
        spent = spent ∙ sym (ap (λ o. unwrap_or (option_map (λ (x : StoredTenant). x.spent) o) 0) found);
        numbered = subst (λ (ts : List StoredTenant). HasItsNumber ts t) (sym same) (new_number t mine number);
      }

-- ---- rows that are put

pub none_rows : AreTenantRows []
none_rows = record { numbered = λ place t at. absurd (cc); apart = λ i j a b at there desk name. absurd (cc) }

pub rows_more : (rows : List StoredTenant) (x : StoredTenant) → AreTenantRows rows → x.number ≡ length rows → find (is_tenant x.desk x.name) rows ≡ None → AreTenantRows (rows ++ x ∷ [])
rows_more rows x are number none = record {
  numbered = λ place t at. elim (pushed_at rows x place t at) [ inl before ↦ are.numbered place t before | inr last ↦ ap (λ (r : StoredTenant). r.number) (sym last.1) ∙ number ∙ sym last.0 ];
  apart = λ i j a b at there desk name. both i j a b (pushed_at rows x i a at) (pushed_at rows x j b there) desk name;
}
  where
    both : (i j : ℕ) (a b : StoredTenant) → (slice_get rows i ≡ Some a) ⊎ ((i ≡ length rows) × (x ≡ a)) → (slice_get rows j ≡ Some b) ⊎ ((j ≡ length rows) × (x ≡ b)) → a.desk ≡ b.desk → a.name ≡ b.name → i ≡ j
    both i j a b (inl one) (inl two) desk name = are.apart i j a b one two desk name
    both i j a b (inl one) (inr two) desk name =
        absurd (found_none (is_tenant x.desk x.name) rows i a none one (tenant_test x.desk x.name a (desk ∙ ap (λ (r : StoredTenant). r.desk) (sym two.1)) (name ∙ ap (λ (r : StoredTenant). r.name) (sym two.1))))
    both i j a b (inr one) (inl two) desk name =
        absurd (found_none (is_tenant x.desk x.name) rows j b none two (tenant_test x.desk x.name b (sym desk ∙ ap (λ (r : StoredTenant). r.desk) (sym one.1)) (sym name ∙ ap (λ (r : StoredTenant). r.name) (sym one.1))))
    both i j a b (inr one) (inr two) desk name = one.0 ∙ sym two.0

-- numbers from a base on
abbrev NumberedFrom : ℕ → List StoredTenant → Type 0
NumberedFrom base rows = (place : ℕ) (t : StoredTenant) → slice_get rows place ≡ Some t → t.number ≡ base + place

later : (base : ℕ) (y : StoredTenant) (ys : List StoredTenant) → NumberedFrom base (y ∷ ys) → NumberedFrom (base + 1) ys
later base y ys numbered place t at = let n = numbered (suc place) t at in omega (arith, n)

below : (y t : StoredTenant) → y.number < t.number → int_cmp (tenant_key y) (tenant_key t) ≡ Less
below y t less = Less-from_lt (tenant_key y) (tenant_key t) (let l = less in grind (arith, ints, l))

equal : (y t : StoredTenant) → y.number ≡ t.number → int_cmp (tenant_key y) (tenant_key t) ≡ Equal
equal y t same = let k : tenant_key y ≡ tenant_key t = ap (λ (n : ℕ). pos n) same in grind (arith, ints, k)

put_at : (base : ℕ) (rows : List StoredTenant) (t : StoredTenant) (place : ℕ) → NumberedFrom base rows → t.number ≡ base + place → place < length rows → insert_by tenant_key rows t ≡ slice_set rows place t
put_at base [] t place numbered number within = absurd (omega (arith, within))
put_at base (y ∷ ys) t zero numbered number within = let n = numbered zero y refl in rw (equal y t (omega (arith, n, number))) refl
put_at base (y ∷ ys) t (suc place) numbered number within =
    let n = numbered zero y refl in rw (below y t (omega (arith, n, number)), put_at (base + 1) ys t place (later base y ys numbered) (omega (arith, number)) (omega (arith, within))) refl

put_last : (base : ℕ) (rows : List StoredTenant) (t : StoredTenant) → NumberedFrom base rows → t.number ≡ base + length rows → insert_by tenant_key rows t ≡ rows ++ t ∷ []
put_last base [] t numbered number = refl
put_last base (y ∷ ys) t numbered number = let n = numbered zero y refl in rw (below y t (omega (arith, n, number)), put_last (base + 1) ys t (later base y ys numbered) (omega (arith, number))) refl

from_zero : (rows : List StoredTenant) → AreTenantRows rows → NumberedFrom 0 rows
from_zero rows are place t at = let n = are.numbered place t at in omega (arith, n)

pub put_in_place : (rows : List StoredTenant) (t : StoredTenant) → AreTenantRows rows → t.number < length rows → slice_set rows t.number t ≡ insert_by tenant_key rows t
put_in_place rows t are within = sym (put_at 0 rows t t.number (from_zero rows are) (omega arith) within)

pub put_behind : (rows : List StoredTenant) (t : StoredTenant) → AreTenantRows rows → t.number ≡ length rows → rows ++ t ∷ [] ≡ insert_by tenant_key rows t
put_behind rows t are number = sym (put_last 0 rows t (from_zero rows are) (omega (arith, number)))

module _ (rows : List StoredTenant) (t : StoredTenant) (are : AreTenantRows rows) (own : HasItsNumber rows t) where
  alone_at : (j : ℕ) (b : StoredTenant) → slice_get rows j ≡ Some b → b.desk ≡ t.desk → b.name ≡ t.name → b.number ≡ t.number
  alone_at j b at =
      subst (λ (o : StoredTenant). o.desk ≡ t.desk → o.name ≡ t.name → o.number ≡ t.number) (get_or_from_slice_get rows j b b at) (own.alone j b (slice_get_within rows j b at))

  -- a row of the same tenant has the place of the number
  same_place : (j : ℕ) (b : StoredTenant) → slice_get rows j ≡ Some b → b.desk ≡ t.desk → b.name ≡ t.name → j ≡ t.number
  same_place j b at desk name = sym (are.numbered j b at) ∙ alone_at j b at desk name

  pub rows_pushed : t.number ≡ length rows → AreTenantRows (rows ++ t ∷ [])
  rows_pushed number = rows_more rows t are number (none (find (is_tenant t.desk t.name) rows) refl)
    where
      none : (o : Option StoredTenant) → find (is_tenant t.desk t.name) rows ≡ o → find (is_tenant t.desk t.name) rows ≡ None
      none None is = is
      none (Some r) is =
          let owner = tenant_found t.desk t.name rows r is in
          let place = found_at (is_tenant t.desk t.name) rows r is in
          let same = same_place place.0 r place.1 owner.0 owner.1 in
          let low = slice_get_within rows place.0 r place.1 in
          absurd (omega (arith, same, low, number))

  set_cases : (i : ℕ) (x : StoredTenant) → t.number < length rows → slice_get (slice_set rows t.number t) i ≡ Some x → ((i ≡ t.number) × (x ≡ t)) ⊎ (slice_get rows i ≡ Some x)
  set_cases i x within at = elim (cases_eq i t.number) [
    | inl same ↦
        let d = get_or rows t.number t in
        let here : slice_get (slice_set rows t.number t) i ≡ Some t = ap (slice_get (slice_set rows t.number t)) same ∙ set_here rows t.number d t (there rows t.number t within) in
        let one : Some t ≡ Some x = sym here ∙ at in
        let is : t ≡ x = cc one in inl (same, sym is)
    | inr other ↦ inr (sym (set_other rows t.number i t other) ∙ at)
  ]

  pub rows_set : t.number < length rows → AreTenantRows (slice_set rows t.number t)
  rows_set within = record {
    numbered = λ i x at. elim (set_cases i x within at) [ inl here ↦ ap (λ (r : StoredTenant). r.number) here.1 ∙ sym here.0 | inr elsewhere ↦ are.numbered i x elsewhere ];
    apart = λ i j a b at there_b desk name. both i j a b (set_cases i a within at) (set_cases j b within there_b) desk name;
  }
    where
      both : (i j : ℕ) (a b : StoredTenant) → ((i ≡ t.number) × (a ≡ t)) ⊎ (slice_get rows i ≡ Some a) → ((j ≡ t.number) × (b ≡ t)) ⊎ (slice_get rows j ≡ Some b) → a.desk ≡ b.desk → a.name ≡ b.name → i ≡ j
      both i j a b (inl one) (inl two) desk name = one.0 ∙ sym two.0
      both i j a b (inl one) (inr two) desk name = one.0 ∙ sym (same_place j b two (sym desk ∙ ap (λ (r : StoredTenant). r.desk) one.1) (sym name ∙ ap (λ (r : StoredTenant). r.name) one.1))
      both i j a b (inr one) (inl two) desk name = same_place i a one (desk ∙ ap (λ (r : StoredTenant). r.desk) two.1) (name ∙ ap (λ (r : StoredTenant). r.name) two.1) ∙ sym two.0
      both i j a b (inr one) (inr two) desk name = are.apart i j a b one two desk name

-- ---- a job that is over

pub cost_row : (rows : List StoredTenant) (desk cost : ℕ) (name : List ℕ) (r t : StoredTenant) → AreTenantRows rows → find (is_tenant desk name) rows ≡ Some r → t ≡ record r { spent = r.spent + cost } → IsRowOfCost desk rows name cost t
cost_row rows desk cost name r t are had is = record {
  row = r;
  had = had;
  is = is;
  numbered = let place = found_at (is_tenant desk name) rows r had in known_number rows are r t place.0 place.1 (ap (λ (x : StoredTenant). x.number) is) (ap (λ (x : StoredTenant). x.desk) is) (ap (λ (x : StoredTenant). x.name) is);
}

same_cost : (standing : JobStanding) (result : StoredResult) → CameTo standing result → spent_of_result result ≡ spent_by_job standing
same_cost stands.Open result came = absurd came
same_cost (stands.Reported report) (stored.Failed code) came = absurd came
same_cost (stands.Reported report) (stored.Reported r) came = sym came.0
same_cost (stands.Failed refusal) (stored.Failed code) came = refl
same_cost (stands.Failed refusal) (stored.Reported r) came = absurd came

pub end_rows : (rows : List StoredTenant) (desk number credit : ℕ) (tenant : List ℕ) (outcome : Result Report ℕ) (s : SettledJob) → s.outcome.desk ≡ desk → s.outcome.number ≡ number → CameTo (settled credit outcome) s.outcome.outcome → IsRowOfCost desk rows tenant (spent_of_result s.outcome.outcome) s.tenant
    → (l : Ledgers) (job : StoredJob) → l.tenants ≡ rows → job_record l desk number ≡ Some job → job.tenant ≡ tenant → job.credit ≡ credit → AreRowsOfEnd desk l number outcome s
end_rows rows desk number credit tenant outcome s at numbered came row l job same was named credited =
    let standing : settled credit outcome ≡ settled job.credit outcome = ap (λ (c : ℕ). settled c outcome) (sym credited) in
    let cost : spent_of_result s.outcome.outcome ≡ spent_by_job (settled job.credit outcome) = same_cost (settled credit outcome) s.outcome.outcome came ∙ ap spent_by_job standing in record {
      at = at;
      numbered = numbered;
      job = job;
      was = was;
      came = subst (λ (x : JobStanding). CameTo x s.outcome.outcome) standing came;
      row = row.row;
      had = ap (λ (n : List ℕ). tenant_named l desk n) named ∙ ap (find (is_tenant desk tenant)) same ∙ row.had;
      tenant = row.is ∙ ap (λ (c : ℕ). record row.row { spent = row.row.spent + c }) cost;
      own = subst (λ (ts : List StoredTenant). HasItsNumber ts s.tenant) (sym same) row.numbered;
    }
