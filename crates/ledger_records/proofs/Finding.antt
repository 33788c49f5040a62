-- What is found in a list of records behind a put.
use Rattle.std.proofs.Common.{◌≡◌, ℕ, zero, suc, ◌==◌, ◌≢◌, ◌<◌, ◌&&◌, ℤ, pos, Bool, true, false, not, cond, List, [], ◌∷◌, ◌++◌, ◌||◌, All, fold, length, find, Some, None, Ordering, Less, Equal, Greater, int_cmp, int_eq, refl, sym, ap, subst, ◌∙◌, arith, slice_get, slice_set}
use Rattle.std.proofs.lemmas.List.Elements.{All-head, All-tail}
use Rattle.std.proofs.lemmas.Bool.Decides.{nat_tests}
use Rattle.std.proofs.lemmas.Cmp.{int_ranked}
use Rattle.std.proofs.lemmas.Int.{ints}
use Rattle.std.proofs.lemmas.Slice.Eq.{bytes_eq-Decides}
use Rattle.std.specs.Ordering.{match_ordering}
use Rattle.std.specs.Str.{bytes_eq}
use Rattle.sqlite_keyed.proofs.KeyedLemmas.{int_eq_apart, same_int}
use Rattle.sqlite_keyed.specs.Keyed.{get_by, insert_by}
use Rattle.sqlite_keyed.specs.Lists.{without_key}
use Rattle.desk_records.specs.Columns.{id_of, most_numbers}
use Rattle.desk_records.specs.Made.{tenant_key}
use Rattle.desk_records.specs.declared.stored_tenant.StoredTenant.{StoredTenant}
use Rattle.desk_records.proofs.MadeLemmas.{all_without}
use Rattle.ledger_records.specs.ChangedRows.{is_number_in}
use Rattle.ledger_records.specs.LedgerRecords.{HasItsNumber, is_tenant}

pub or_true : (a b : Bool) → b ≡ true → (a || b) ≡ true
or_true true b is = refl
or_true false b is = is

-- of numbers that differ one is below the other
not_less : (a b : ℤ) → int_cmp a b ≡ Less → a ≡ b → ⊥
not_less a b less same = grind (arith, ints)

module _ {X : Type 0} (key : X → ℤ) where
  pub get_put : (xs : List X) (x : X) (id : ℤ) → get_by key (insert_by key xs x) id ≡ cond (int_eq (key x) id) (Some x) (get_by key xs id)
  get_put [] x id = refl
  get_put (y ∷ ys) x id = go (int_cmp (key y) (key x)) refl (int_eq (key y) id) refl (int_eq (key x) id) refl (get_put ys x id)
    where
      go : (o : Ordering) → int_cmp (key y) (key x) ≡ o → (b : Bool) → int_eq (key y) id ≡ b → (c : Bool) → int_eq (key x) id ≡ c
          → get_by key (insert_by key ys x) id ≡ cond (int_eq (key x) id) (Some x) (get_by key ys id)
          → get_by key (match_ordering o (y ∷ insert_by key ys x) (x ∷ ys) (x ∷ y ∷ ys)) id ≡ cond (int_eq (key x) id) (Some x) (cond (int_eq (key y) id) (Some y) (get_by key ys id))
      go Less less true here true there more = absurd (not_less (key y) (key x) less (same_int (key y) id here ∙ sym (same_int (key x) id there)))
      go Less less true here false there more = rw (here, there) refl
      go Less less false here c there more = rw here more
      go Equal same b here true there more = rw there refl
      go Equal same true here false there more =
          let equal : key y ≡ key x = int_ranked (key y) (key x) Equal (sym same) in absurd (cc (here, there, equal))
      go Equal same false here false there more = rw (there, here) refl
      go Greater more_than b here c there more = refl

module _ {X : Type 0} (key : X → ℤ) where
  pub get_without : (xs : List X) (gone id : ℤ) → int_eq gone id ≡ false → get_by key (without_key key xs gone) id ≡ get_by key xs id
  get_without [] gone id other = refl
  get_without (y ∷ ys) gone id other = go (int_eq (key y) gone) refl (int_eq (key y) id) refl (get_without ys gone id other)
    where
      go : (b : Bool) → int_eq (key y) gone ≡ b → (c : Bool) → int_eq (key y) id ≡ c → get_by key (without_key key ys gone) id ≡ get_by key ys id
          → get_by key (cond (not b) (y ∷ without_key key ys gone) (without_key key ys gone)) id ≡ cond (int_eq (key y) id) (Some y) (get_by key ys id)
      go true here true there more =
          let one : key y ≡ gone = same_int (key y) gone here in
          let two : key y ≡ id = same_int (key y) id there in
          absurd (cc (other, here, there, one, two))
      go true here false there more = rw there more
      go false here true there more = rw there refl
      go false here false there more = rw there more

module _ {X : Type 0} (key : X → ℤ) where
  pub get_gone : (xs : List X) (id : ℤ) → get_by key (without_key key xs id) id ≡ None
  get_gone [] id = refl
  get_gone (y ∷ ys) id = go (int_eq (key y) id) refl (get_gone ys id)
    where
      go : (b : Bool) → int_eq (key y) id ≡ b → get_by key (without_key key ys id) id ≡ None → get_by key (cond (not b) (y ∷ without_key key ys id) (without_key key ys id)) id ≡ None
      go true here more = more
      go false here more = rw here more

-- one desk's jobs have rows of their own
pub apart : (desk n m : ℕ) → (n ≡ m → ⊥) → int_eq (pos (id_of desk n)) (pos (id_of desk m)) ≡ false
apart desk n m other =
    int_eq_apart (pos (id_of desk n)) (pos (id_of desk m)) (λ (same : pos (id_of desk n) ≡ pos (id_of desk m)). other (let e : id_of desk n ≡ id_of desk m = cc same in omega (arith, e)))

-- and so have the jobs of two desks
pub desks_apart : (d e n m : ℕ) → d ≢ e → n < most_numbers → m < most_numbers → int_eq (pos (id_of d n)) (pos (id_of e m)) ≡ false
desks_apart d e n m other one two =
    int_eq_apart (pos (id_of d n)) (pos (id_of e m)) (λ (same : pos (id_of d n) ≡ pos (id_of e m)). other (let k : id_of d n ≡ id_of e m = cc same in omega (arith, k, one, two)))

pub itself : (n : ℤ) → int_eq n n ≡ true
itself n = grind (arith, ints)

-- ---- tenants

tenant_is : (desk : ℕ) (name : List ℕ) (t : StoredTenant) → is_tenant desk name t ≡ true → (t.desk ≡ desk) × (t.name ≡ name)
tenant_is desk name t is = go (t.desk == desk) refl is
  where
    go : (b : Bool) → (t.desk == desk) ≡ b → (b && bytes_eq t.name name) ≡ true → (t.desk ≡ desk) × (t.name ≡ name)
    go true here is = (grind (arith, nat_tests), (bytes_eq-Decides t.name name).0 is)
    go false here is = absurd (cc)

pub tenant_found : (desk : ℕ) (name : List ℕ) (xs : List StoredTenant) (t : StoredTenant) → find (is_tenant desk name) xs ≡ Some t → (t.desk ≡ desk) × (t.name ≡ name)
tenant_found desk name [] t there = absurd (cc)
tenant_found desk name (y ∷ ys) t there = go (is_tenant desk name y) refl there (λ later. tenant_found desk name ys t later)
  where
    go : (b : Bool) → is_tenant desk name y ≡ b → cond b (Some y) (find (is_tenant desk name) ys) ≡ Some t → (find (is_tenant desk name) ys ≡ Some t → (t.desk ≡ desk) × (t.name ≡ name)) → (t.desk ≡ desk) × (t.name ≡ name)
    go true here there more = let same : y ≡ t = cc in subst (λ (x : StoredTenant). (x.desk ≡ desk) × (x.name ≡ name)) same (tenant_is desk name y here)
    go false here there more = more there

alike : (desk : ℕ) (name : List ℕ) (a b : StoredTenant) → a.desk ≡ b.desk → a.name ≡ b.name → is_tenant desk name a ≡ is_tenant desk name b
alike desk name a b at named = rw (at, named) refl

abbrev same_row : StoredTenant → StoredTenant → Type 0
same_row t o = o.number ≡ t.number → (o.desk ≡ t.desk) × (o.name ≡ t.name)

abbrev own_row : StoredTenant → StoredTenant → Type 0
own_row t o = o.desk ≡ t.desk → o.name ≡ t.name → o.number ≡ t.number

pub find_put : (desk : ℕ) (name : List ℕ) (xs : List StoredTenant) (t : StoredTenant) → HasItsNumber xs t
    → find (is_tenant desk name) (insert_by tenant_key xs t) ≡ cond (is_tenant desk name t) (Some t) (find (is_tenant desk name) xs)
find_put desk name [] t has = refl
find_put desk name (y ∷ ys) t has =
    go (int_cmp (tenant_key y) (tenant_key t)) refl (is_tenant desk name y) refl (is_tenant desk name t) refl
    (find_put desk name ys t (record { same = All-tail (same_row t) y ys has.same; alone = All-tail (own_row t) y ys has.alone }))
  where
    go : (o : Ordering) → int_cmp (tenant_key y) (tenant_key t) ≡ o → (b : Bool) → is_tenant desk name y ≡ b → (c : Bool) → is_tenant desk name t ≡ c
        → find (is_tenant desk name) (insert_by tenant_key ys t) ≡ cond (is_tenant desk name t) (Some t) (find (is_tenant desk name) ys)
        → find (is_tenant desk name) (match_ordering o (y ∷ insert_by tenant_key ys t) (t ∷ ys) (t ∷ y ∷ ys))
        ≡ cond (is_tenant desk name t) (Some t) (cond (is_tenant desk name y) (Some y) (find (is_tenant desk name) ys))
    go Less less true here true there more =
        let one = tenant_is desk name y here in
        let two = tenant_is desk name t there in
        let number : y.number ≡ t.number = All-head (own_row t) y ys has.alone (one.0 ∙ sym two.0) (one.1 ∙ sym two.1) in
        absurd (not_less (tenant_key y) (tenant_key t) less (ap (λ (n : ℕ). pos n) number))
    go Less less true here false there more = rw (here, there) refl
    go Less less false here c there more = rw here more
    go Equal same b here true there more = rw there refl
    go Equal same true here false there more =
        let equal : tenant_key y ≡ tenant_key t = int_ranked (tenant_key y) (tenant_key t) Equal (sym same) in
        let number : y.number ≡ t.number = cc equal in
        let both = All-head (same_row t) y ys has.same number in
        absurd (cc (here, there, alike desk name y t both.0 both.1))
    go Equal same false here false there more = rw (there, here) refl
    go Greater more_than b here c there more = refl

-- ---- jobs by their numbers

pub get_last : {X : Type 0} (xs : List X) (x : X) → slice_get (xs ++ x ∷ []) (length xs) ≡ Some x
get_last [] x = refl
get_last (y ∷ xs) x = get_last xs x

pub get_other : {X : Type 0} (xs : List X) (x : X) (i : ℕ) → (i ≡ length xs → ⊥) → slice_get (xs ++ x ∷ []) i ≡ slice_get xs i
get_other [] x zero other = absurd (other refl)
get_other [] x (suc i) other = refl
get_other (y ∷ xs) x zero other = refl
get_other (y ∷ xs) x (suc i) other = get_other xs x i (λ same. other (ap suc same))

pub past_last : {X : Type 0} (xs : List X) → slice_get xs (length xs) ≡ None
past_last [] = refl
past_last (x ∷ xs) = past_last xs

pub set_here : {X : Type 0} (xs : List X) (i : ℕ) (x y : X) → slice_get xs i ≡ Some x → slice_get (slice_set xs i y) i ≡ Some y
set_here [] i x y was = absurd (cc)
set_here (z ∷ xs) zero x y was = refl
set_here (z ∷ xs) (suc i) x y was = set_here xs i x y was

pub set_other : {X : Type 0} (xs : List X) (i j : ℕ) (y : X) → (j ≡ i → ⊥) → slice_get (slice_set xs i y) j ≡ slice_get xs j
set_other [] i j y other = refl
set_other (z ∷ xs) zero zero y other = absurd (other refl)
set_other (z ∷ xs) zero (suc j) y other = refl
set_other (z ∷ xs) (suc i) zero y other = refl
set_other (z ∷ xs) (suc i) (suc j) y other = set_other xs i j y (λ same. other (ap suc same))

-- ---- lists without the jobs of some numbers

module _ {X : Type 0} (key : X → ℤ) where
  abbrev left : ℕ → List X → List ℕ → List X
  left desk = fold (λ xs number. without_key key xs (pos (id_of desk number)))

  none_stays : (xs : List X) (gone id : ℤ) → get_by key xs id ≡ None → get_by key (without_key key xs gone) id ≡ None
  none_stays xs gone id none = go (int_eq gone id) refl
    where
      go : (b : Bool) → int_eq gone id ≡ b → get_by key (without_key key xs gone) id ≡ None
      go true same = ap (λ (g : ℤ). get_by key (without_key key xs g) id) (same_int gone id same) ∙ get_gone key xs id
      go false other = get_without key xs gone id other ∙ none

  left_none : (desk : ℕ) (xs : List X) (numbers : List ℕ) (id : ℤ) → get_by key xs id ≡ None → get_by key (left desk xs numbers) id ≡ None
  left_none desk xs [] id none = none
  left_none desk xs (m ∷ ms) id none = left_none desk (without_key key xs (pos (id_of desk m))) ms id (none_stays xs (pos (id_of desk m)) id none)

  pub left_gone : (desk : ℕ) (xs : List X) (numbers : List ℕ) (n : ℕ) → is_number_in n numbers ≡ true → get_by key (left desk xs numbers) (pos (id_of desk n)) ≡ None
  left_gone desk xs [] n among = absurd (cc)
  left_gone desk xs (m ∷ ms) n among = go (m == n) refl among (λ later. left_gone desk (without_key key xs (pos (id_of desk m))) ms n later)
    where
      go : (b : Bool) → (m == n) ≡ b → (b || is_number_in n ms) ≡ true → (is_number_in n ms ≡ true → get_by key (left desk (without_key key xs (pos (id_of desk m))) ms) (pos (id_of desk n)) ≡ None)
          → get_by key (left desk (without_key key xs (pos (id_of desk m))) ms) (pos (id_of desk n)) ≡ None
      go true here among more =
          let same : m ≡ n = grind (arith, nat_tests) in
          left_none desk (without_key key xs (pos (id_of desk m))) ms (pos (id_of desk n))
          (ap (λ (k : ℕ). get_by key (without_key key xs (pos (id_of desk k))) (pos (id_of desk n))) same ∙ get_gone key xs (pos (id_of desk n)))
      go false here among more = more among

  pub left_there : (desk : ℕ) (xs : List X) (numbers : List ℕ) (n : ℕ) → is_number_in n numbers ≡ false → get_by key (left desk xs numbers) (pos (id_of desk n)) ≡ get_by key xs (pos (id_of desk n))
  left_there desk xs [] n among = refl
  left_there desk xs (m ∷ ms) n among = go (m == n) refl among (λ later. left_there desk (without_key key xs (pos (id_of desk m))) ms n later)
    where
      go : (b : Bool) → (m == n) ≡ b → (b || is_number_in n ms) ≡ false
          → (is_number_in n ms ≡ false → get_by key (left desk (without_key key xs (pos (id_of desk m))) ms) (pos (id_of desk n)) ≡ get_by key (without_key key xs (pos (id_of desk m))) (pos (id_of desk n)))
          → get_by key (left desk (without_key key xs (pos (id_of desk m))) ms) (pos (id_of desk n)) ≡ get_by key xs (pos (id_of desk n))
      go true here among more = absurd (cc)
      go false here among more =
          let other : m ≡ n → ⊥ = λ same. grind (arith, nat_tests) in
          more among ∙ get_without key xs (pos (id_of desk m)) (pos (id_of desk n)) (apart desk m n other)

  pub left_others : (desk mine : ℕ) (xs : List X) (numbers : List ℕ) (n : ℕ) → desk ≢ mine → ((m : ℕ) → is_number_in m numbers ≡ true → m < most_numbers) → n < most_numbers
      → get_by key (left desk xs numbers) (pos (id_of mine n)) ≡ get_by key xs (pos (id_of mine n))
  left_others desk mine xs [] n other few small = refl
  left_others desk mine xs (m ∷ ms) n other few small =
      let own : (m == m) ≡ true = grind (arith, nat_tests) in
      let here : is_number_in m (m ∷ ms) ≡ true = ap (λ (b : Bool). b || is_number_in m ms) own in
      left_others desk mine (without_key key xs (pos (id_of desk m))) ms n other (λ k among. few k (or_true (m == k) (is_number_in k ms) among)) small
      ∙ get_without key xs (pos (id_of desk m)) (pos (id_of mine n)) (desks_apart desk mine m n other (few m here) small)

module _ {X : Type 0} (key : X → ℤ) (P : X → Type 0) where
  pub all_left : (desk : ℕ) (xs : List X) (numbers : List ℕ) → All P xs → All P (left key desk xs numbers)
  all_left desk xs [] each = each
  all_left desk xs (m ∷ ms) each = all_left desk (without_key key xs (pos (id_of desk m))) ms (all_without P key xs (pos (id_of desk m)) each)

pub found_key : {X : Type 0} (key : X → ℤ) (xs : List X) (x : X) (id : ℤ) → get_by key xs id ≡ Some x → int_eq (key x) id ≡ true
found_key key [] x id there = absurd (cc)
found_key key (y ∷ ys) x id there = go (int_eq (key y) id) refl there (λ later. found_key key ys x id later)
  where
    go : (b : Bool) → int_eq (key y) id ≡ b → cond b (Some y) (get_by key ys id) ≡ Some x → (get_by key ys id ≡ Some x → int_eq (key x) id ≡ true) → int_eq (key x) id ≡ true
    go true here there more = let same : y ≡ x = cc in ap (λ z. int_eq (key z) id) (sym same) ∙ here
    go false here there more = more there
