-- One desk of a table of jobs changes.
use Rattle.std.proofs.Common.{◌≡◌, ◌≢◌, ◌<◌, ◌+◌, ℕ, zero, suc, List, [], ◌∷◌, ◌++◌, Option, Some, None, IfSome, IfNone, MatchOption, length, set, refl, sym, ap, subst, ◌∙◌, ◌⊎◌, inl, inr, arith}
use Rattle.std.proofs.lemmas.Bool.{cases_eq}
use Rattle.std.specs.Prelude.{slice_get, slice_index_or}
use Rattle.std.specs.BTreeMap as tree
use Rattle.std.specs.BTreeMap.{BTreeMap, btree_map_len}
use Rattle.std.specs.Ordering.{nat_cmp}
use Rattle.credit_book.specs.declared.board.Progress.{Progress}
use Rattle.server_state.specs.declared.job_id.JobId.{JobId}
use Rattle.job_pool.specs.PooledJobs.{PooledJob}
use Rattle.job_pool.specs.Holdings.{AreUnderNames, ChangesJob, DropsJob, HoldsJob, IsFreshTable, IsSameTable, LooksAt, LooksOnce, SeenJob, count_of_desk, held_job_at, numbered_job, open_at, open_in}

module _ {X : Type 0} where
  pub set_here : (l : List X) (d : ℕ) (x : X) → d < length l → slice_get (set l d x) d ≡ Some x
  set_here [] d x below = absurd (omega (arith, below))
  set_here (y ∷ ys) zero x below = refl
  set_here (y ∷ ys) (suc d) x below = set_here ys d x (omega (arith, below))

  pub set_other : (l : List X) (d e : ℕ) (x : X) → e ≢ d → slice_get (set l d x) e ≡ slice_get l e
  set_other [] d e x differs = refl
  set_other (y ∷ ys) zero zero x differs = absurd (differs refl)
  set_other (y ∷ ys) zero (suc e) x differs = refl
  set_other (y ∷ ys) (suc d) zero x differs = refl
  set_other (y ∷ ys) (suc d) (suc e) x differs = set_other ys d e x (λ same. differs (ap suc same))

  pub set_length : (l : List X) (d : ℕ) (x : X) → length (set l d x) ≡ length l
  set_length [] d x = refl
  set_length (y ∷ ys) zero x = refl
  set_length (y ∷ ys) (suc d) x = ap suc (set_length ys d x)

  pub index_get : (l : List X) (d : ℕ) (x : X) → d < length l → slice_get l d ≡ Some (slice_index_or l d x)
  index_get [] d x below = absurd (omega (arith, below))
  index_get (y ∷ ys) zero x below = refl
  index_get (y ∷ ys) (suc d) x below = index_get ys d x (omega (arith, below))

  pub get_below : (l : List X) (d : ℕ) (x : X) → slice_get l d ≡ Some x → d < length l
  get_below [] d x found = let clash : None ≡ Some x = found in absurd (cc)
  get_below (y ∷ ys) zero x found = omega arith
  get_below (y ∷ ys) (suc d) x found = let more : d < length ys = get_below ys d x found in omega (arith, more)

pub sum_set : (desks : List (BTreeMap ℕ SeenJob)) (d : ℕ) (old new : BTreeMap ℕ SeenJob) → slice_get desks d ≡ Some old → open_in (set desks d new) + btree_map_len old ≡ open_in desks + btree_map_len new
sum_set [] d old new found = let clash : None ≡ Some old = found in absurd (cc)
sum_set (jobs ∷ desks) zero old new found =
    let same : jobs ≡ old = some_is jobs old found in
    let count : btree_map_len jobs ≡ btree_map_len old = ap (λ (m : BTreeMap ℕ SeenJob). btree_map_len m) same in omega (arith, count)
  where
    some_is : (a b : BTreeMap ℕ SeenJob) → Some a ≡ Some b → a ≡ b
    some_is a b e = cc
sum_set (jobs ∷ desks) (suc d) old new found = let more = sum_set desks d old new found in omega (arith, more)

module _ (desks now : List (BTreeMap ℕ SeenJob)) (id : JobId) (old new : BTreeMap ℕ SeenJob) (was : slice_get desks id.desk ≡ Some old) (is : now ≡ set desks id.desk new) where
  desk_here : slice_get now id.desk ≡ Some new
  desk_here = ap (λ (l : List (BTreeMap ℕ SeenJob)). slice_get l id.desk) is ∙ set_here desks id.desk new (get_below desks id.desk old was)

  desk_other : (d : ℕ) → d ≢ id.desk → slice_get now d ≡ slice_get desks d
  desk_other d differs = ap (λ (l : List (BTreeMap ℕ SeenJob)). slice_get l d) is ∙ set_other desks id.desk d new differs

  pub open_now : open_at now id.desk ≡ btree_map_len new
  open_now = ap count_of_desk desk_here

  pub open_was : open_at desks id.desk ≡ btree_map_len old
  open_was = ap count_of_desk was

  pub job_was : held_job_at desks id ≡ tree.get nat_cmp old id.number
  job_was = ap (λ (o : Option (BTreeMap ℕ SeenJob)). numbered_job o id.number) was

  pub sum_now : open_in now + btree_map_len old ≡ open_in desks + btree_map_len new
  sum_now = ap (λ (l : List (BTreeMap ℕ SeenJob)). open_in l + btree_map_len old) is ∙ sum_set desks id.desk old new was

  pub changes : (held : Option SeenJob) → tree.get nat_cmp new id.number ≡ held → ((n : ℕ) → n ≢ id.number → tree.get nat_cmp new n ≡ tree.get nat_cmp old n) → ChangesJob desks id held now
  changes held here others = record {
    here = ap (λ (o : Option (BTreeMap ℕ SeenJob)). numbered_job o id.number) desk_here ∙ here;
    others = other_job;
    desks = ap length is ∙ set_length desks id.desk new;
    other_desks = λ d differs. ap count_of_desk (desk_other d differs);
  }
    where
      other_job : (other : JobId) → other ≢ id → held_job_at now other ≡ held_job_at desks other
      other_job other differs =
          elim (cases_eq other.desk id.desk) [
            | inl same ↦
                let apart : other.number ≢ id.number = λ number. differs (λ i. record { desk = same i; number = number i }) in
                ap (λ (d : ℕ). numbered_job (slice_get now d) other.number) same
                ∙ (ap (λ (o : Option (BTreeMap ℕ SeenJob)). numbered_job o other.number) desk_here
                ∙ (others other.number apart
                ∙ (sym (ap (λ (o : Option (BTreeMap ℕ SeenJob)). numbered_job o other.number) was)
                ∙ sym (ap (λ (d : ℕ). numbered_job (slice_get desks d) other.number) same))))
            | inr apart ↦ ap (λ (o : Option (BTreeMap ℕ SeenJob)). numbered_job o other.number) (desk_other other.desk apart)
          ]

  pub same_table : ((n : ℕ) → tree.get nat_cmp new n ≡ tree.get nat_cmp old n) → btree_map_len new ≡ btree_map_len old → IsSameTable desks now
  same_table each count = record {
    jobs = same_job;
    desks = ap length is ∙ set_length desks id.desk new;
    each = same_count;
    all = let sum = sum_now in omega (arith, sum, count);
  }
    where
      same_job : (other : JobId) → held_job_at now other ≡ held_job_at desks other
      same_job other =
          elim (cases_eq other.desk id.desk) [
            | inl same ↦
                ap (λ (d : ℕ). numbered_job (slice_get now d) other.number) same
                ∙ (ap (λ (o : Option (BTreeMap ℕ SeenJob)). numbered_job o other.number) desk_here
                ∙ (each other.number
                ∙ (sym (ap (λ (o : Option (BTreeMap ℕ SeenJob)). numbered_job o other.number) was)
                ∙ sym (ap (λ (d : ℕ). numbered_job (slice_get desks d) other.number) same))))
            | inr apart ↦ ap (λ (o : Option (BTreeMap ℕ SeenJob)). numbered_job o other.number) (desk_other other.desk apart)
          ]

      same_count : (d : ℕ) → open_at now d ≡ open_at desks d
      same_count d =
          elim (cases_eq d id.desk) [
            | inl same ↦ ap (open_at now) same ∙ (open_now ∙ (count ∙ (sym open_was ∙ sym (ap (open_at desks) same))))
            | inr apart ↦ ap count_of_desk (desk_other d apart)
          ]

-- names stay right
pub named_by : (desks now : List (BTreeMap ℕ SeenJob)) (id : JobId) (held : Option SeenJob) → AreUnderNames desks → ChangesJob desks id held now → ((h : SeenJob) → held ≡ Some h → h.job.id ≡ id) → AreUnderNames now
named_by desks now id held named change own other h found =
    elim (named_cases other id) [
      | inl same ↦ own h (sym change.here ∙ (ap (held_job_at now) (sym same) ∙ found)) ∙ sym same
      | inr differs ↦ named other h (sym (change.others other differs) ∙ found)
    ]
  where
    named_cases : (a b : JobId) → (a ≡ b) ⊎ (a ≢ b)
    named_cases a b =
        elim (cases_eq a.desk b.desk) [
          | inl desk ↦
              elim (cases_eq a.number b.number) [
                | inl number ↦ inl (λ i. record { desk = desk i; number = number i })
                | inr apart ↦ inr (λ same. apart (ap (λ (j : JobId). j.number) same))
              ]
          | inr apart ↦ inr (λ same. apart (ap (λ (j : JobId). j.desk) same))
        ]

pub named_same : (desks now : List (BTreeMap ℕ SeenJob)) → AreUnderNames desks → IsSameTable desks now → AreUnderNames now
named_same desks now named same id h found = named id h (sym (same.jobs id) ∙ found)

-- ---- what is done at a desk

module _ (desks : List (BTreeMap ℕ SeenJob)) (id : JobId) (old new : BTreeMap ℕ SeenJob) (was : slice_get desks id.desk ≡ Some old) where
  abbrev now_set : List (BTreeMap ℕ SeenJob)
  now_set = set desks id.desk new

  pub holds_job : (held : SeenJob) → held_job_at desks id ≡ None → tree.get nat_cmp new id.number ≡ Some held → ((n : ℕ) → n ≢ id.number → tree.get nat_cmp new n ≡ tree.get nat_cmp old n) → btree_map_len new ≡ btree_map_len old + 1 → HoldsJob desks id held now_set
  holds_job held none here others count = record {
    was_none = none;
    changes = changes desks now_set id old new was refl (Some held) here others;
    desk = open_now desks now_set id old new was refl ∙ (count ∙ ap (λ (n : ℕ). n + 1) (sym (open_was desks now_set id old new was refl)));
    all = let sum = sum_now desks now_set id old new was refl in omega (arith, sum, count);
  }

  pub drops_job : (held : SeenJob) → tree.get nat_cmp old id.number ≡ Some held → tree.get nat_cmp new id.number ≡ None → ((n : ℕ) → n ≢ id.number → tree.get nat_cmp new n ≡ tree.get nat_cmp old n) → btree_map_len new + 1 ≡ btree_map_len old → DropsJob desks id held now_set
  drops_job held there gone others count = record {
    was = job_was desks now_set id old new was refl ∙ there;
    changes = changes desks now_set id old new was refl None gone others;
    desk = ap (λ (n : ℕ). n + 1) (open_now desks now_set id old new was refl) ∙ (count ∙ sym (open_was desks now_set id old new was refl));
    all = let sum = sum_now desks now_set id old new was refl in omega (arith, sum, count);
  }

  pub looks_job : (held later : SeenJob) (told : Progress) → AreUnderNames desks → tree.get nat_cmp old id.number ≡ Some held → later.job ≡ held.job → LooksOnce held.sight told later.sight
      → held.sight.board.job ≡ held.job.id.number → held.sight.board.issued ≡ held.job.job.credit
      → tree.get nat_cmp new id.number ≡ Some later → ((n : ℕ) → n ≢ id.number → tree.get nat_cmp new n ≡ tree.get nat_cmp old n) → btree_map_len new ≡ btree_map_len old
      → LooksAt desks id held told now_set
  looks_job held later told named there same look board credit here others count = record {
    later = later.sight;
    own = (board ∙ ap (λ (j : JobId). j.number) (named id held (job_was desks now_set id old new was refl ∙ there)), credit);
    seen = look;
    changes = changes desks now_set id old new was refl (Some (record { job = held.job; sight = later.sight })) (here ∙ ap (λ (j : PooledJob). Some (record { job = j; sight = later.sight })) same) others;
    desk = open_now desks now_set id old new was refl ∙ (count ∙ sym (open_was desks now_set id old new was refl));
    all = let sum = sum_now desks now_set id old new was refl in omega (arith, sum, count);
  }

  -- a desk put back as it was
  pub same_desk : new ≡ old → now_set ≡ desks
  same_desk same = ap (λ (m : BTreeMap ℕ SeenJob). set desks id.desk m) same ∙ set_back desks id.desk old was
    where
      set_back : (l : List (BTreeMap ℕ SeenJob)) (d : ℕ) (m : BTreeMap ℕ SeenJob) → slice_get l d ≡ Some m → set l d m ≡ l
      set_back [] d m found = refl
      set_back (x ∷ xs) zero m found = ap (λ (y : BTreeMap ℕ SeenJob). y ∷ xs) (is_same m x found)
        where
          is_same : (a b : BTreeMap ℕ SeenJob) → Some b ≡ Some a → a ≡ b
          is_same a b e = cc
      set_back (x ∷ xs) (suc d) m found = ap (λ (ys : List (BTreeMap ℕ SeenJob)). x ∷ ys) (set_back xs d m found)

-- ---- what nobody has used yet

abbrev pub AreFresh : List (BTreeMap ℕ SeenJob) → Type 0
AreFresh [] = Unit {0}
AreFresh (jobs ∷ desks) = ((n : ℕ) → tree.get nat_cmp jobs n ≡ None) × (btree_map_len jobs ≡ 0) × AreFresh desks

pub fresh_more : (desks : List (BTreeMap ℕ SeenJob)) (jobs : BTreeMap ℕ SeenJob) → AreFresh desks → ((n : ℕ) → tree.get nat_cmp jobs n ≡ None) → btree_map_len jobs ≡ 0 → AreFresh (desks ++ jobs ∷ [])
fresh_more [] jobs fresh none empty = (none, empty, tt)
fresh_more (x ∷ xs) jobs fresh none empty = (fresh.0, fresh.1, fresh_more xs jobs fresh.2 none empty)

pub fresh_table : (desks : List (BTreeMap ℕ SeenJob)) → AreFresh desks → IsFreshTable desks
fresh_table desks fresh = record { jobs = λ id. no_job desks id.desk id.number fresh; each = λ d. no_count desks d fresh; all = none_in desks fresh }
  where
    no_job : (l : List (BTreeMap ℕ SeenJob)) (d n : ℕ) → AreFresh l → numbered_job (slice_get l d) n ≡ None
    no_job [] d n fresh = refl
    no_job (x ∷ xs) zero n fresh = fresh.0 n
    no_job (x ∷ xs) (suc d) n fresh = no_job xs d n fresh.2

    no_count : (l : List (BTreeMap ℕ SeenJob)) (d : ℕ) → AreFresh l → count_of_desk (slice_get l d) ≡ 0
    no_count [] d fresh = refl
    no_count (x ∷ xs) zero fresh = fresh.1
    no_count (x ∷ xs) (suc d) fresh = no_count xs d fresh.2

    none_in : (l : List (BTreeMap ℕ SeenJob)) → AreFresh l → open_in l ≡ 0
    none_in [] fresh = refl
    none_in (x ∷ xs) fresh = let here = fresh.1 in let rest = none_in xs fresh.2 in omega (arith, here, rest)

-- ---- a look

module _ (desks : List (BTreeMap ℕ SeenJob)) (id : JobId) (old new : BTreeMap ℕ SeenJob) (was : slice_get desks id.desk ≡ Some old) (named : AreUnderNames desks) where
  abbrev IsLooked : Progress → Type 0
  IsLooked told = (o : SeenJob) × (n : SeenJob) × (tree.get nat_cmp old id.number ≡ Some o) × (n.job ≡ o.job) × LooksOnce o.sight told n.sight
      × (o.sight.board.job ≡ o.job.id.number) × (o.sight.board.issued ≡ o.job.job.credit) × (tree.get nat_cmp new id.number ≡ Some n)

  abbrev Looked : Option Progress → Type 0
  Looked result = AreUnderNames (set desks id.desk new) × (open_in (set desks id.desk new) ≡ open_in desks)
      × MatchOption result ((held_job_at desks id ≡ None) × (set desks id.desk new ≡ desks))
      (λ told. (held : SeenJob) × (held_job_at desks id ≡ Some held) × LooksAt desks id held told (set desks id.desk new))

  pub looked : (result : Option Progress) → IfSome result IsLooked → IfNone result ((tree.get nat_cmp old id.number ≡ None) × (new ≡ old)) → ((n : ℕ) → n ≢ id.number → tree.get nat_cmp new n ≡ tree.get nat_cmp old n) → btree_map_len new ≡ btree_map_len old → Looked result
  looked None seen none others count =
      let same : set desks id.desk new ≡ desks = same_desk desks id old new was none.1 in
      (subst AreUnderNames (sym same) named, ap open_in same, (job_was desks desks id old old was (sym (same_desk desks id old old was refl)) ∙ none.0, same))
  looked (Some told) seen none others count =
      let o = seen.0 in
      let n = seen.1 in
      let looks : LooksAt desks id o told (set desks id.desk new) = looks_job desks id old new was o n told named seen.2 seen.3 seen.4 seen.5 seen.6 seen.7 others count in
      let there : held_job_at desks id ≡ Some o = job_was desks desks id old old was (sym (same_desk desks id old old was refl)) ∙ seen.2 in (
        named_by desks (set desks id.desk new) id (Some (record { job = o.job; sight = looks.later })) named looks.changes (λ h e. ap (λ (j : PooledJob). j.id) (job_is h o looks.later e) ∙ named id o there),
        looks.all,
        (o, there, looks),
      )
    where
      job_is : (h o : SeenJob) (later : _) → Some (record { job = o.job; sight = later }) ≡ Some h → h.job ≡ o.job
      job_is h o later e = let same : record { job = o.job; sight = later } ≡ h = cc in sym (ap (λ (s : SeenJob). s.job) same)

-- a job that is held is at a desk of the table
pub job_below : (desks : List (BTreeMap ℕ SeenJob)) (id : JobId) (held : SeenJob) → held_job_at desks id ≡ Some held → id.desk < length desks
job_below desks id held found = below desks id.desk found
  where
    below : (l : List (BTreeMap ℕ SeenJob)) (d : ℕ) → numbered_job (slice_get l d) id.number ≡ Some held → d < length l
    below [] d e = let clash : None ≡ Some held = e in absurd (cc)
    below (x ∷ xs) zero e = omega arith
    below (x ∷ xs) (suc d) e = let more : d < length xs = below xs d e in omega (arith, more)

pub no_held : (o : Option SeenJob) (held : SeenJob) → o ≡ None → o ≡ Some held → ⊥
no_held o held none some = cc

-- at the desk of this number, which is the name's
abbrev pub IsLookedAt : List (BTreeMap ℕ SeenJob) → JobId → ℕ → BTreeMap ℕ SeenJob → Option Progress → Type 0
IsLookedAt desks id d new result = AreUnderNames (set desks d new) × (open_in (set desks d new) ≡ open_in desks)
    × MatchOption result ((held_job_at desks id ≡ None) × (set desks d new ≡ desks))
    (λ told. (held : SeenJob) × (held_job_at desks id ≡ Some held) × LooksAt desks id held told (set desks d new))

pub looked_at : (desks : List (BTreeMap ℕ SeenJob)) (id : JobId) (d : ℕ) (old new : BTreeMap ℕ SeenJob) → d ≡ id.desk → slice_get desks d ≡ Some old → AreUnderNames desks → (result : Option Progress)
    → IfSome result (λ told. (o : SeenJob) × (n : SeenJob) × (tree.get nat_cmp old id.number ≡ Some o) × (n.job ≡ o.job) × LooksOnce o.sight told n.sight
    × (o.sight.board.job ≡ o.job.id.number) × (o.sight.board.issued ≡ o.job.job.credit) × (tree.get nat_cmp new id.number ≡ Some n))
    → IfNone result ((tree.get nat_cmp old id.number ≡ None) × (new ≡ old)) → ((n : ℕ) → n ≢ id.number → tree.get nat_cmp new n ≡ tree.get nat_cmp old n) → btree_map_len new ≡ btree_map_len old → IsLookedAt desks id d new result
looked_at desks id d old new is was named result seen none others count =
    subst (λ (e : ℕ). IsLookedAt desks id e new result) (sym is)
    (looked desks id old new (ap (slice_get desks) (sym is) ∙ was) named result seen none others count)
