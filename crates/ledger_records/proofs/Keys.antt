-- Keyed jobs of a desk, in the records of all desks.
use Rattle.std.proofs.Common.{length-append, length-drop, ◌≡◌, ◌≢◌, ◌+◌, ◌-◌, ◌<◌, ◌≤◌, ◌==◌, ℕ, zero, suc, ℤ, pos, ◌<ℤ◌, All, Bool, true, false, not, cond, List, [], ◌∷◌, ◌++◌, drop, filter, length, map, nat_lt, if◌then◌else◌, Option, Some, None, Ordering, Less, Equal, Greater, int_cmp, int_eq, refl, sym, ap, subst, ◌∙◌, arith}
use Rattle.std.proofs.lemmas.Bool.Decides.{nat_tests}
use Rattle.std.proofs.lemmas.Cmp.{int_ranked}
use Rattle.std.proofs.lemmas.Int.{ints}
use Rattle.std.proofs.lemmas.List.Elements.{All-head, All-tail}
use Rattle.std.specs.List.{AllByRecursion}
use Rattle.std.specs.Ordering.{match_ordering}
use Rattle.sqlite_keyed.proofs.KeyedLemmas.{IsKeyedBy-insert_by, same_int}
use Rattle.sqlite_keyed.proofs.ListLemmas.{ascending-filter}
use Rattle.sqlite_keyed.specs.Keyed.{IsKeyedBy, insert_by}
use Rattle.sqlite_keyed.specs.Lists.{without_key}
use Rattle.sessions.specs.JobKeys.{latest, noted}
use Rattle.sessions.specs.declared.job_key.KeyedJob.{KeyedJob}
use Rattle.desk_records.specs.Changes.{IsNarrowDropped, IsNarrowNoted}
use Rattle.desk_records.specs.Columns.{id_of, most_numbers}
use Rattle.desk_records.specs.Made.{key_id, keys_but, keys_noted}
use Rattle.desk_records.specs.Records.{IsNarrowKey}
use Rattle.desk_records.proofs.MadeLemmas.{all_insert, all_without}
use Rattle.desk_records.specs.declared.stored_change.NotedKey.{NotedKey}
use Rattle.desk_records.specs.declared.stored_key.StoredKey.{StoredKey}
use Rattle.ledger_records.specs.ChangedRows.{first_dropped}
use Rattle.ledger_records.proofs.Finding.{itself}
use Rattle.ledger_records.specs.DeskRecords.{is_key_of, keyed_job, keyed_jobs_of}

-- keys of rows whose numbers are within what a row holds tell the desk and the number
pub same_id : (d e n m : ℕ) → n < most_numbers → m < most_numbers → pos (id_of d n) ≡ pos (id_of e m) → (d ≡ e) × (n ≡ m)
same_id d e n m one two same = let k : id_of d n ≡ id_of e m = cc same in (omega (arith, k, one, two), omega (arith, k, one, two))

pub is_own : (desk : ℕ) (k : StoredKey) → is_key_of desk k ≡ true → k.desk ≡ desk
is_own desk k own = grind (arith, nat_tests)

pub own_is : (desk : ℕ) (k : StoredKey) → k.desk ≡ desk → is_key_of desk k ≡ true
own_is desk k own = grind (arith, nat_tests)

-- ---- keys of other desks

module _ (desk : ℕ) where
  pub others_insert : (keys : List StoredKey) (k : StoredKey) → All IsNarrowKey keys → k.number < most_numbers → is_key_of desk k ≡ false → filter (is_key_of desk) (insert_by key_id keys k) ≡ filter (is_key_of desk) keys
  others_insert [] k narrow small other = rw other refl
  others_insert (y ∷ ys) k narrow small other = go (int_cmp (key_id y) (key_id k)) refl (is_key_of desk y) refl (others_insert ys k (All-tail IsNarrowKey y ys narrow) small other)
    where
      go : (o : Ordering) → int_cmp (key_id y) (key_id k) ≡ o → (b : Bool) → is_key_of desk y ≡ b → filter (is_key_of desk) (insert_by key_id ys k) ≡ filter (is_key_of desk) ys
          → filter (is_key_of desk) (match_ordering o (y ∷ insert_by key_id ys k) (k ∷ ys) (k ∷ y ∷ ys)) ≡ cond b (y ∷ filter (is_key_of desk) ys) (filter (is_key_of desk) ys)
      go Less less b here more = rw (here, more) refl
      go Equal same true here more =
          let equal : key_id y ≡ key_id k = int_ranked (key_id y) (key_id k) Equal (sym same) in
          let desks = same_id y.desk k.desk y.number k.number (All-head IsNarrowKey y ys narrow).number small equal in
          let own : is_key_of desk k ≡ true = own_is desk k (sym desks.0 ∙ is_own desk y here) in
          absurd (cc (own, other))
      go Equal same false here more = rw other refl
      go Greater more_than b here more = rw (other, here) refl

  pub others_without : (keys : List StoredKey) (d n : ℕ) → All IsNarrowKey keys → d ≢ desk → n < most_numbers → filter (is_key_of desk) (without_key key_id keys (pos (id_of d n))) ≡ filter (is_key_of desk) keys
  others_without [] d n narrow other small = refl
  others_without (y ∷ ys) d n narrow other small = go (int_eq (key_id y) (pos (id_of d n))) refl (is_key_of desk y) refl (others_without ys d n (All-tail IsNarrowKey y ys narrow) other small)
    where
      go : (e : Bool) → int_eq (key_id y) (pos (id_of d n)) ≡ e → (b : Bool) → is_key_of desk y ≡ b → filter (is_key_of desk) (without_key key_id ys (pos (id_of d n))) ≡ filter (is_key_of desk) ys
          → filter (is_key_of desk) (cond (not e) (y ∷ without_key key_id ys (pos (id_of d n))) (without_key key_id ys (pos (id_of d n)))) ≡ cond b (y ∷ filter (is_key_of desk) ys) (filter (is_key_of desk) ys)
      go true same true here more =
          let equal : key_id y ≡ pos (id_of d n) = same_int (key_id y) (pos (id_of d n)) same in
          let desks = same_id y.desk d y.number n (All-head IsNarrowKey y ys narrow).number small equal in
          absurd (other (sym desks.0 ∙ is_own desk y here))
      go true same false here more = more
      go false apart b here more = rw (here, more) refl

-- ---- the desk's own

abbrev pub IsBelow : ℕ → ℕ → StoredKey → Type 0
IsBelow desk number y = y.desk ≡ desk → y.number < number

-- above a key there is none of the desk whose number is below
none_above : (desk : ℕ) (k : StoredKey) (bound : ℤ) (ys : List StoredKey) → k.desk ≡ desk → pos (id_of desk k.number) <ℤ bound → AllByRecursion (λ y. bound <ℤ key_id y) ys → All (IsBelow desk k.number) ys
    → filter (is_key_of desk) ys ≡ []
none_above desk k bound [] own above each below = refl
none_above desk k bound (y ∷ ys) own above each below = go (is_key_of desk y) refl (none_above desk k bound ys own above each.1 (All-tail (IsBelow desk k.number) y ys below))
  where
    go : (b : Bool) → is_key_of desk y ≡ b → filter (is_key_of desk) ys ≡ [] → cond b (y ∷ filter (is_key_of desk) ys) (filter (is_key_of desk) ys) ≡ []
    go true here more =
        let at : y.desk ≡ desk = is_own desk y here in
        let less : y.number < k.number = All-head (IsBelow desk k.number) y ys below at in
        let id : key_id y ≡ pos (id_of desk y.number) = ap (λ (d : ℕ). pos (id_of d y.number)) at in
        let smaller : id_of desk y.number < id_of desk k.number = omega (arith, less) in
        let over : bound <ℤ pos (id_of desk y.number) = subst (λ (z : ℤ). bound <ℤ z) id each.0 in
        absurd (grind (arith, ints, above, over, smaller))
    go false here more = more

pub own_insert : (desk : ℕ) (keys : List StoredKey) (k : StoredKey) → IsKeyedBy key_id keys → k.desk ≡ desk → All (IsBelow desk k.number) keys → All IsNarrowKey keys → k.number < most_numbers
    → filter (is_key_of desk) (insert_by key_id keys k) ≡ filter (is_key_of desk) keys ++ k ∷ []
own_insert desk [] k rise own below narrow small = rw (own_is desk k own) refl
own_insert desk (y ∷ ys) k rise own below narrow small =
    go (int_cmp (key_id y) (key_id k)) refl (is_key_of desk y) refl (own_insert desk ys k rise.1 own (All-tail (IsBelow desk k.number) y ys below) (All-tail IsNarrowKey y ys narrow) small)
  where
    ours : is_key_of desk k ≡ true
    ours = own_is desk k own

    id : key_id k ≡ pos (id_of desk k.number)
    id = ap (λ (d : ℕ). pos (id_of d k.number)) own

    go : (o : Ordering) → int_cmp (key_id y) (key_id k) ≡ o → (b : Bool) → is_key_of desk y ≡ b → filter (is_key_of desk) (insert_by key_id ys k) ≡ filter (is_key_of desk) ys ++ k ∷ []
        → filter (is_key_of desk) (match_ordering o (y ∷ insert_by key_id ys k) (k ∷ ys) (k ∷ y ∷ ys)) ≡ cond b (y ∷ filter (is_key_of desk) ys) (filter (is_key_of desk) ys) ++ k ∷ []
    go Less less true here more = rw (here, more) refl
    go Less less false here more = rw (here, more) refl
    go Equal same b here more =
        let equal : key_id y ≡ key_id k = int_ranked (key_id y) (key_id k) Equal (sym same) in
        let one = same_id y.desk k.desk y.number k.number (All-head IsNarrowKey y ys narrow).number small equal in
        let less : y.number < k.number = All-head (IsBelow desk k.number) y ys below (one.0 ∙ own) in
        absurd (omega (arith, one.1, less))
    go Greater more_than b here more =
        let above : key_id k <ℤ key_id y = grind (arith, ints, more_than) in
        let from : pos (id_of desk k.number) <ℤ key_id y = subst (λ (z : ℤ). z <ℤ key_id y) id above in
        let none : filter (is_key_of desk) ys ≡ [] = none_above desk k (key_id y) ys own from rise.0 (All-tail (IsBelow desk k.number) y ys below) in
        not_here b here from none
      where
        not_here : (c : Bool) → is_key_of desk y ≡ c → pos (id_of desk k.number) <ℤ key_id y → filter (is_key_of desk) ys ≡ []
            → filter (is_key_of desk) (k ∷ y ∷ ys) ≡ cond c (y ∷ filter (is_key_of desk) ys) (filter (is_key_of desk) ys) ++ k ∷ []
        not_here true mine from none =
            let at : y.desk ≡ desk = is_own desk y mine in
            let less : y.number < k.number = All-head (IsBelow desk k.number) y ys below at in
            let same : key_id y ≡ pos (id_of desk y.number) = ap (λ (d : ℕ). pos (id_of d y.number)) at in
            let smaller : id_of desk y.number < id_of desk k.number = omega (arith, less) in
            let over : pos (id_of desk k.number) <ℤ pos (id_of desk y.number) = subst (λ (z : ℤ). pos (id_of desk k.number) <ℤ z) same from in
            absurd (grind (arith, ints, over, smaller))
        not_here false other from none = rw (ours, other, none) refl

-- no key of so high a number is there twice
none_removed : (bound : ℤ) (ys : List StoredKey) → AllByRecursion (λ y. bound <ℤ key_id y) ys → without_key key_id ys bound ≡ ys
none_removed bound [] each = refl
none_removed bound (y ∷ ys) each =
    let apart : int_eq (key_id y) bound ≡ false = grind (arith, ints, each.0) in
    rw (apart, none_removed bound ys each.1) refl

-- the first of the desk's keys goes, by its number
pub first_removed : (desk : ℕ) (keys : List StoredKey) (k : StoredKey) (rest : List StoredKey) → IsKeyedBy key_id keys → All IsNarrowKey keys → filter (is_key_of desk) keys ≡ k ∷ rest
    → filter (is_key_of desk) (without_key key_id keys (pos (id_of desk k.number))) ≡ rest
first_removed desk [] k rest rise narrow first = absurd (cc)
first_removed desk (y ∷ ys) k rest rise narrow first = go (is_key_of desk y) refl first (λ later. first_removed desk ys k rest rise.1 (All-tail IsNarrowKey y ys narrow) later)
  where
    gone : ℤ
    gone = pos (id_of desk k.number)

    go : (b : Bool) → is_key_of desk y ≡ b → cond b (y ∷ filter (is_key_of desk) ys) (filter (is_key_of desk) ys) ≡ k ∷ rest → (filter (is_key_of desk) ys ≡ k ∷ rest → filter (is_key_of desk) (without_key key_id ys gone) ≡ rest)
        → filter (is_key_of desk) (cond (not (int_eq (key_id y) gone)) (y ∷ without_key key_id ys gone) (without_key key_id ys gone)) ≡ rest
    go true here there more =
        let same : y ≡ k = cc in
        let tail : filter (is_key_of desk) ys ≡ rest = cc in
        let id : key_id y ≡ gone = ap (λ (d : ℕ). pos (id_of d y.number)) (is_own desk y here) ∙ ap (λ (x : StoredKey). pos (id_of desk x.number)) same in
        let found : int_eq (key_id y) gone ≡ true = ap (int_eq (key_id y)) (sym id) ∙ itself (key_id y) in
        rw found (ap (λ (z : ℤ). filter (is_key_of desk) (without_key key_id ys z)) (sym id) ∙ ap (filter (is_key_of desk)) (none_removed (key_id y) ys rise.0) ∙ tail)
    go false here there more = by_id (int_eq (key_id y) gone) refl (more there)
      where
        by_id : (e : Bool) → int_eq (key_id y) gone ≡ e → filter (is_key_of desk) (without_key key_id ys gone) ≡ rest
            → filter (is_key_of desk) (cond (not e) (y ∷ without_key key_id ys gone) (without_key key_id ys gone)) ≡ rest
        by_id true same later = later
        by_id false apart later = rw here later

-- ---- what is remembered behind one more

pub few_noted : (keys : List KeyedJob) (job : ℕ) (key : List ℕ) → length keys ≤ 1000 → length (noted keys job key) ≤ 1000
few_noted keys job key few = let p = length-drop (length (keys ++ record { job = job; key = key } ∷ []) - 1000) (keys ++ record { job = job; key = key } ∷ []) in
    let q = length-append keys (record { job = job; key = key } ∷ []) in omega (arith, p, q, few)

abbrev one_more : List KeyedJob → KeyedJob → List KeyedJob
one_more keys k = keys ++ k ∷ []

-- fewer than 1,000: all stay
pub all_stay : (keys : List KeyedJob) (k : KeyedJob) → length keys < 1000 → latest (one_more keys k) ≡ one_more keys k
all_stay keys k few =
    let q = length-append keys (k ∷ []) in
    let none : length (one_more keys k) - 1000 ≡ 0 = omega (arith, q, few) in
    ap (λ (n : ℕ). drop n (one_more keys k)) none

-- 1,000: the first one goes
first_goes : (first : KeyedJob) (keys : List KeyedJob) (k : KeyedJob) → length keys ≡ 999 → latest (one_more (first ∷ keys) k) ≡ one_more keys k
first_goes first keys k full =
    let q = length-append keys (k ∷ []) in
    let one : length (one_more (first ∷ keys) k) - 1000 ≡ 1 = omega (arith, q, full) in
    ap (λ (n : ℕ). drop n (one_more (first ∷ keys) k)) one

map_more : (keys : List StoredKey) (k : StoredKey) → map keyed_job (keys ++ k ∷ []) ≡ one_more (map keyed_job keys) (keyed_job k)
map_more [] k = refl
map_more (x ∷ xs) k = ap (λ (ys : List KeyedJob). keyed_job x ∷ ys) (map_more xs k)

map_long : (keys : List StoredKey) → length (map keyed_job keys) ≡ length keys
map_long [] = refl
map_long (x ∷ xs) = ap suc (map_long xs)

-- the rows of a desk's keys behind one more are those of what it remembers then
pub keys_kept : (desk : ℕ) (keys : List StoredKey) (noted_key : NotedKey) → IsKeyedBy key_id keys → All IsNarrowKey keys → noted_key.key.desk ≡ desk → IsNarrowKey noted_key.key → All (IsBelow desk noted_key.key.number) keys
    → length (keyed_jobs_of desk keys) ≤ 1000 → noted_key.dropped ≡ first_dropped (keyed_jobs_of desk keys)
    → keyed_jobs_of desk (keys_noted keys (Some noted_key)) ≡ noted (keyed_jobs_of desk keys) noted_key.key.number noted_key.key.key
keys_kept desk keys noted_key rise narrow own fits below few dropped = by_rows (filter (is_key_of desk) keys) refl
  where
    k : StoredKey
    k = noted_key.key

    more : List StoredKey
    more = insert_by key_id keys k

    added : filter (is_key_of desk) more ≡ filter (is_key_of desk) keys ++ k ∷ []
    added = own_insert desk keys k rise own below narrow fits.number

    rises : IsKeyedBy key_id more
    rises = IsKeyedBy-insert_by key_id keys k rise

    all_narrow : All IsNarrowKey more
    all_narrow = all_insert IsNarrowKey key_id keys k narrow fits

    stays : noted_key.dropped ≡ None → length (keyed_jobs_of desk keys) < 1000 → keyed_jobs_of desk (keys_but k.desk more noted_key.dropped) ≡ latest (one_more (keyed_jobs_of desk keys) (keyed_job k))
    stays none room =
        ap (λ (d : Option ℕ). keyed_jobs_of desk (keys_but k.desk more d)) none ∙ ap (map keyed_job) added ∙ map_more (filter (is_key_of desk) keys) k ∙ sym (all_stay (keyed_jobs_of desk keys) (keyed_job k) room)

    by_rows : (rows : List StoredKey) → filter (is_key_of desk) keys ≡ rows → keyed_jobs_of desk (keys_but k.desk more noted_key.dropped) ≡ latest (one_more (keyed_jobs_of desk keys) (keyed_job k))
    by_rows [] rows =
        let none : keyed_jobs_of desk keys ≡ [] = ap (map keyed_job) rows in
        let long : length (keyed_jobs_of desk keys) ≡ 0 = ap length none in
        stays (dropped ∙ ap first_dropped none) (omega (arith, long))
    by_rows (x ∷ xs) rows = by_room (nat_lt (length (map keyed_job xs)) 999) refl
      where
        all : keyed_jobs_of desk keys ≡ keyed_job x ∷ map keyed_job xs
        all = ap (map keyed_job) rows

        long : length (keyed_jobs_of desk keys) ≡ length (map keyed_job xs) + 1
        long = let p : length (keyed_jobs_of desk keys) ≡ suc (length (map keyed_job xs)) = ap length all in omega (arith, p)

        told : noted_key.dropped ≡ (if nat_lt (length (map keyed_job xs)) 999 then None else Some x.number)
        told = dropped ∙ ap first_dropped all

        by_room : (b : Bool) → nat_lt (length (map keyed_job xs)) 999 ≡ b → keyed_jobs_of desk (keys_but k.desk more noted_key.dropped) ≡ latest (one_more (keyed_jobs_of desk keys) (keyed_job k))
        by_room true room =
            let fewer : length (map keyed_job xs) < 999 = grind (arith, nat_tests, room) in
            stays (told ∙ ap (λ (b : Bool). if b then None else Some x.number) room) (omega (arith, long, fewer))
        by_room false full =
            let more_than : 999 ≤ length (map keyed_job xs) = grind (arith, nat_tests, full) in
            let exact : length (map keyed_job xs) ≡ 999 = omega (arith, long, few, more_than) in
            let gone : noted_key.dropped ≡ Some x.number = told ∙ ap (λ (b : Bool). if b then None else Some x.number) full in
            let left : filter (is_key_of desk) (without_key key_id more (pos (id_of desk x.number))) ≡ xs ++ k ∷ [] = first_removed desk more x (xs ++ k ∷ []) rises all_narrow (added ∙ ap (λ (ys : List StoredKey). ys ++ k ∷ []) rows) in
            ap (λ (d : Option ℕ). keyed_jobs_of desk (keys_but k.desk more d)) gone ∙ ap (λ (d : ℕ). keyed_jobs_of desk (without_key key_id more (pos (id_of d x.number)))) own ∙ ap (map keyed_job) left ∙ map_more xs k
            ∙ sym (ap (λ (ks : List KeyedJob). latest (one_more ks (keyed_job k))) all ∙ first_goes (keyed_job x) (map keyed_job xs) (keyed_job k) exact)

-- the keys rise behind any change of them
pub noted_rise : (keys : List StoredKey) (key : Option NotedKey) → IsKeyedBy key_id keys → IsKeyedBy key_id (keys_noted keys key)
noted_rise keys None rise = rise
noted_rise keys (Some k) rise = dropped_rise k.key.desk (insert_by key_id keys k.key) k.dropped (IsKeyedBy-insert_by key_id keys k.key rise)
  where
    dropped_rise : (desk : ℕ) (keys : List StoredKey) (dropped : Option ℕ) → IsKeyedBy key_id keys → IsKeyedBy key_id (keys_but desk keys dropped)
    dropped_rise desk keys None rise = rise
    dropped_rise desk keys (Some n) rise = ascending-filter (λ a b. key_id a <ℤ key_id b) (λ y. not (int_eq (key_id y) (pos (id_of desk n)))) keys rise

-- so it is of the key that is noted, if one is
abbrev pub IfNoted : (StoredKey → Type 0) → Option NotedKey → Type 0
IfNoted P None = Unit {0}
IfNoted P (Some k) = P k.key

module _ (P : StoredKey → Type 0) where
  pub all_noted : (keys : List StoredKey) (key : Option NotedKey) → All P keys → IfNoted P key → All P (keys_noted keys key)
  all_noted keys None each here = each
  all_noted keys (Some k) each here = all_dropped k.key.desk (insert_by key_id keys k.key) k.dropped (all_insert P key_id keys k.key each here)
    where
      all_dropped : (desk : ℕ) (keys : List StoredKey) (dropped : Option ℕ) → All P keys → All P (keys_but desk keys dropped)
      all_dropped desk keys None each = each
      all_dropped desk keys (Some n) each = all_without P key_id keys (pos (id_of desk n)) each

-- keys of other desks stay
pub others_kept : (desk : ℕ) (keys : List StoredKey) (key : Option NotedKey) → All IsNarrowKey keys → IsNarrowNoted key → IfNoted (λ k. k.desk ≢ desk) key → keyed_jobs_of desk (keys_noted keys key) ≡ keyed_jobs_of desk keys
others_kept desk keys None narrow fits other = refl
others_kept desk keys (Some k) narrow fits other = dropped k.dropped fits.1 ∙ ap (map keyed_job) (others_insert desk keys k.key narrow fits.0.number apart)
  where
    apart : is_key_of desk k.key ≡ false
    apart = grind (arith, nat_tests, other)

    all_narrow : All IsNarrowKey (insert_by key_id keys k.key)
    all_narrow = all_insert IsNarrowKey key_id keys k.key narrow fits.0

    dropped : (d : Option ℕ) → IsNarrowDropped d → keyed_jobs_of desk (keys_but k.key.desk (insert_by key_id keys k.key) d) ≡ keyed_jobs_of desk (insert_by key_id keys k.key)
    dropped None small = refl
    dropped (Some n) small = ap (map keyed_job) (others_without desk (insert_by key_id keys k.key) k.key.desk n all_narrow other small)
