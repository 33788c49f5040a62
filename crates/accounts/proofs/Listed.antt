-- Jobs by their numbers, as the list of all.
use Rattle.std.proofs.Common.{◌≡◌, ◌≢◌, ◌⊎◌, ℕ, zero, suc, ◌+◌, ◌-◌, ◌*◌, ◌^◌, ◌≤◌, ◌<◌, List, [], ◌∷◌, ◌++◌, length, sum_by, get_or, slice_get, slice_set, Bool, false, nat_eq, if◌then◌else◌, Option, Some, None, unwrap_or, refl, sym, ap, ◌∙◌, subst, inl, inr, arith}
use Rattle.std.proofs.lemmas.Bool.{cases_eq, cases_lt}
use Rattle.std.proofs.lemmas.List.{same_lists, length-set, get_or-set_same, get_or-set_other}
use Rattle.std.proofs.lemmas.Bool.Decides.{nat_tests}
use Rattle.std.proofs.lemmas.List.Sums.{sum_by-append, sum_by-le, sum_by-set, sum_by_push, get_or-le-sum_by}
use Rattle.std.proofs.lemmas.Option.{slice_get_past, slice_get_within, get_or_from_slice_get}
use Rattle.accounts.specs.declared.jobs.JobEntry.{JobEntry}
use Rattle.accounts.specs.declared.jobs.JobStanding.{JobStanding}
use Rattle.accounts.specs.declared.jobs.JobStanding.TheVariants.{Open, Reported, Failed}
use Rattle.accounts.specs.declared.kept_jobs.KeptJobs.{KeptJobs}
use Rattle.accounts.specs.Jobs.{job_at}
use Rattle.accounts.specs.Forgetting.{IsGone}
use Rattle.accounts.specs.Limits.{bytes_in, bytes_held}
use Rattle.accounts.specs.Numbered.{IsSound, jobs_numbered, entry_at, listed_jobs, most_jobs}

-- ---- lists

pushed_length : {X : Type 0} (xs : List X) (y : X) → length (xs ++ y ∷ []) ≡ suc (length xs)
pushed_length [] y = refl
pushed_length (x ∷ xs) y = ap suc (pushed_length xs y)

get_ahead : {X : Type 0} (xs ys : List X) (i : ℕ) (x : X) → slice_get xs i ≡ Some x → slice_get (xs ++ ys) i ≡ Some x
get_ahead [] ys i x at = cc
get_ahead (y ∷ xs) ys zero x at = at
get_ahead (y ∷ xs) ys (suc i) x at = get_ahead xs ys i x at

get_last : {X : Type 0} (xs : List X) (y : X) (i : ℕ) → i ≡ length xs → slice_get (xs ++ y ∷ []) i ≡ Some y
get_last [] y zero is = refl
get_last [] y (suc i) is = absurd (omega (arith, is))
get_last (x ∷ xs) y zero is = absurd (omega (arith, is))
get_last (x ∷ xs) y (suc i) is = get_last xs y i (omega (arith, is))

pub get_set_here : {X : Type 0} (xs : List X) (i : ℕ) (y : X) → i < length xs → slice_get (slice_set xs i y) i ≡ Some y
get_set_here [] i y lt = absurd (omega (arith, lt))
get_set_here (x ∷ xs) zero y lt = refl
get_set_here (x ∷ xs) (suc i) y lt = get_set_here xs i y (omega (arith, lt))

pub get_set_apart : {X : Type 0} (xs : List X) (i j : ℕ) (y : X) → j ≢ i → slice_get (slice_set xs i y) j ≡ slice_get xs j
get_set_apart [] i j y apart = refl
get_set_apart (x ∷ xs) zero zero y apart = absurd (apart refl)
get_set_apart (x ∷ xs) zero (suc j) y apart = refl
get_set_apart (x ∷ xs) (suc i) zero y apart = refl
get_set_apart (x ∷ xs) (suc i) (suc j) y apart = get_set_apart xs i j y (λ same. apart (ap suc same))

pub get_within : {X : Type 0} (xs : List X) (i : ℕ) → i < length xs → (x : X) × (slice_get xs i ≡ Some x)
get_within [] i lt = absurd (omega (arith, lt))
get_within (x ∷ xs) zero lt = (x, refl)
get_within (x ∷ xs) (suc i) lt = get_within xs i (omega (arith, lt))

pub same_some : {X : Type 0} (x y : X) → Some x ≡ Some y → x ≡ y
same_some x y same = ap (λ o. unwrap_or o x) same

-- ---- what is listed_jobs

pub listed_length : (f : ℕ → Option JobEntry) (g : JobEntry) (n : ℕ) → length (listed_jobs f g n) ≡ n
listed_length f g zero = refl
listed_length f g (suc n) = pushed_length (listed_jobs f g n) (unwrap_or (f (suc n)) g) ∙ ap suc (listed_length f g n)

step_get : (xs : List JobEntry) (y x : JobEntry) (i n : ℕ) → length xs ≡ n → i < suc n → (i < n → slice_get xs i ≡ Some x)
    → (i ≡ n → y ≡ x) → slice_get (xs ++ y ∷ []) i ≡ Some x
step_get xs y x i n long lt before here = by (cases_lt i n)
  where
    by : (i < n) ⊎ (n ≤ i) → slice_get (xs ++ y ∷ []) i ≡ Some x
    by (inl less) = get_ahead xs (y ∷ []) i x (before less)
    by (inr more) =
        let is : i ≡ n = omega (arith, lt, more) in
        get_last xs y i (is ∙ sym long) ∙ ap Some (here is)

pub listed_get : (f : ℕ → Option JobEntry) (g : JobEntry) (n i : ℕ) → i < n
    → slice_get (listed_jobs f g n) i ≡ Some (unwrap_or (f (suc i)) g)
listed_get f g zero i lt = absurd (omega (arith, lt))
listed_get f g (suc n) i lt =
    step_get (listed_jobs f g n) (unwrap_or (f (suc n)) g) (unwrap_or (f (suc i)) g) i n (listed_length f g n) lt
    (λ less. listed_get f g n i less) (λ is. ap (λ k. unwrap_or (f (suc k)) g) (sym is))

listed_or : (f : ℕ → Option JobEntry) (g d : JobEntry) (n i : ℕ) → i < n → get_or (listed_jobs f g n) i d ≡ unwrap_or (f (suc i)) g
listed_or f g d n i lt = get_or_from_slice_get (listed_jobs f g n) i _ d (listed_get f g n i lt)

pub listed_same : (f h : ℕ → Option JobEntry) (g : JobEntry) (n : ℕ) → ((i : ℕ) → i < n → h (suc i) ≡ f (suc i))
    → listed_jobs h g n ≡ listed_jobs f g n
listed_same f h g n same =
    same_lists (listed_jobs h g n) (listed_jobs f g n) (listed_length h g n ∙ sym (listed_length f g n))
    (λ i d lt.
    let long = listed_length h g n in
    let less : i < n = omega (arith, lt, long) in
    listed_or h g d n i less ∙ ap (λ o. unwrap_or o g) (same i less) ∙ sym (listed_or f g d n i less))

-- one of them is another
pub listed_set : (f h : ℕ → Option JobEntry) (g : JobEntry) (n k : ℕ) (w : Option JobEntry) → 1 ≤ k → k ≤ n → h k ≡ w
    → ((m : ℕ) → m ≢ k → h m ≡ f m) → listed_jobs h g n ≡ slice_set (listed_jobs f g n) (k - 1) (unwrap_or w g)
listed_set f h g n k w some most here others =
    same_lists (listed_jobs h g n) (slice_set (listed_jobs f g n) (k - 1) (unwrap_or w g))
    (listed_length h g n ∙ sym (listed_length f g n) ∙ sym (length-set (listed_jobs f g n) (k - 1) (unwrap_or w g)))
    (λ i d lt. let long = listed_length h g n in by i d (omega (arith, lt, long)) (cases_eq i (k - 1)))
  where
    by : (i : ℕ) (d : JobEntry) → i < n → (i ≡ k - 1) ⊎ (i ≢ k - 1)
        → get_or (listed_jobs h g n) i d ≡ get_or (slice_set (listed_jobs f g n) (k - 1) (unwrap_or w g)) i d
    by i d lt (inl same) =
        let number : suc i ≡ k = omega (arith, same, some) in
        let long = listed_length f g n in
        listed_or h g d n i lt ∙ ap (λ m. unwrap_or (h m) g) number ∙ ap (λ o. unwrap_or o g) here
        ∙ sym (get_or-set_same (listed_jobs f g n) (k - 1) (unwrap_or w g) d (omega (arith, same, lt, long)))
        ∙ ap (λ m. get_or (slice_set (listed_jobs f g n) (k - 1) (unwrap_or w g)) m d) (sym same)
    by i d lt (inr apart) =
        listed_or h g d n i lt ∙ ap (λ o. unwrap_or o g) (others (suc i) (λ same. apart (omega (arith, same))))
        ∙ sym (listed_or f g d n i lt) ∙ sym (get_or-set_other (listed_jobs f g n) (k - 1) i (unwrap_or w g) d apart)

-- ---- jobs that are kept

-- where an entry of the list comes from
pub there : (k : KeptJobs) (i : ℕ) (e : JobEntry) → slice_get (jobs_numbered k) i ≡ Some e → (i < k.count)
    × ((entry_at k (suc i) ≡ Some e) ⊎ ((entry_at k (suc i) ≡ None) × (k.gone ≡ e)))
there k i e at = (less, by (entry_at k (suc i)) refl (same_some _ e (sym (listed_get (entry_at k) k.gone k.count i less) ∙ at)))
  where
    less : i < k.count
    less = let lt = slice_get_within (jobs_numbered k) i e at in let long = listed_length (entry_at k) k.gone k.count in
        omega (arith, lt, long)

    by : (o : Option JobEntry) → entry_at k (suc i) ≡ o → unwrap_or (entry_at k (suc i)) k.gone ≡ e
        → (entry_at k (suc i) ≡ Some e) ⊎ ((entry_at k (suc i) ≡ None) × (k.gone ≡ e))
    by (Some x) found is = inl (found ∙ ap Some (ap (λ o. unwrap_or o k.gone) (sym found) ∙ is))
    by None found is = inr (found, ap (λ o. unwrap_or o k.gone) (sym found) ∙ is)

-- the entry of a number that isn't forgotten
pub placed : (k : KeptJobs) → IsSound k → (n : ℕ) (e : JobEntry) → entry_at k n ≡ Some e → slice_get (jobs_numbered k) (n - 1) ≡ Some e
placed k sound n e at =
    let within = sound.numbers n e at in
    let some = within.0 in
    let most = within.1 in
    let less : n - 1 < k.count = omega (arith, some, most) in
    let is : suc (n - 1) ≡ n = omega (arith, some) in
    listed_get (entry_at k) k.gone k.count (n - 1) less ∙ ap (λ m. Some (unwrap_or (entry_at k m) k.gone)) is
    ∙ ap (λ o. Some (unwrap_or o k.gone)) at

-- the same, by the number of a job
pub job_is : (jobs : List JobEntry) (n : ℕ) → 1 ≤ n → job_at jobs n ≡ slice_get jobs (n - 1)
job_is jobs n some =
    let apart : nat_eq n 0 ≡ false = grind (arith, nat_tests) in
    ap (λ (b : Bool). if◌then◌else◌ {A = Option JobEntry} b None (slice_get jobs (n - 1))) apart

pub job_here : (jobs : List JobEntry) (n : ℕ) (e : JobEntry) → 1 ≤ n → slice_get jobs (n - 1) ≡ Some e → job_at jobs n ≡ Some e
job_here jobs n e some at = job_is jobs n some ∙ at

pub job_found : (k : KeptJobs) → IsSound k → (n : ℕ) (e : JobEntry) → entry_at k n ≡ Some e → Some e ≡ job_at (jobs_numbered k) n
job_found k sound n e at = sym (job_here (jobs_numbered k) n e (sound.numbers n e at).0 (placed k sound n e at))

pub job_missing : (k : KeptJobs) (n : ℕ) → 1 ≤ n → n ≤ k.count → entry_at k n ≡ None → Some k.gone ≡ job_at (jobs_numbered k) n
job_missing k n some most at =
    let less : n - 1 < k.count = omega (arith, some, most) in
    let is : suc (n - 1) ≡ n = omega (arith, some) in
    sym (job_is (jobs_numbered k) n some ∙ listed_get (entry_at k) k.gone k.count (n - 1) less
    ∙ ap (λ m. Some (unwrap_or (entry_at k m) k.gone)) is ∙ ap (λ o. Some (unwrap_or o k.gone)) at)

pub job_none : (k : KeptJobs) (n : ℕ) → k.count < n → None ≡ job_at (jobs_numbered k) n
job_none k n past =
    let long = listed_length (entry_at k) k.gone k.count in
    sym (job_is (jobs_numbered k) n (omega (arith, past)) ∙ slice_get_past (jobs_numbered k) (n - 1) (omega (arith, past, long)))

-- an open job isn't forgotten
pub open_there : (k : KeptJobs) → IsSound k → (n : ℕ) (e : JobEntry) → job_at (jobs_numbered k) n ≡ Some e → e.standing ≡ Open → entry_at k n ≡ Some e
open_there k sound zero e at opened = cc
open_there k sound (suc n) e at opened = by (there k n e (ap (slice_get (jobs_numbered k)) (omega arith) ∙ sym (job_is (jobs_numbered k) (suc n) (omega arith)) ∙ at)).1
  where
    by : (entry_at k (suc n) ≡ Some e) ⊎ ((entry_at k (suc n) ≡ None) × (k.gone ≡ e)) → entry_at k (suc n) ≡ Some e
    by (inl found) = found
    by (inr gone) = let clash : Failed 76 ≡ Open = sym sound.gone.standing ∙ ap (λ (x : JobEntry). x.standing) gone.1 ∙ opened in cc

-- ---- sums

pub sum_first : {X : Type 0} (f : X → ℕ) (x : X) (xs : List X) → sum_by f (x ∷ xs) ≡ f x + sum_by f xs
sum_first f x xs =
    let all : sum_by f (x ∷ xs) ≡ sum_by f (x ∷ []) + sum_by f xs = sum_by-append f (x ∷ []) xs in
    let one : sum_by f (x ∷ []) ≡ 0 + f x = refl in
    omega (arith, all, one)

pub set_bytes : (jobs : List JobEntry) (i : ℕ) (entry e : JobEntry) → slice_get jobs i ≡ Some entry
    → bytes_held (slice_set jobs i e) + bytes_in entry.standing ≡ bytes_held jobs + bytes_in e.standing
set_bytes jobs i entry e at =
    let is : get_or jobs i entry ≡ entry = get_or_from_slice_get jobs i entry entry at in
    rw (← ap (λ (x : JobEntry). bytes_in x.standing) is)
    (sum_by-set (λ (x : JobEntry). bytes_in x.standing) jobs i e entry (slice_get_within jobs i entry at))

pub gone_bytes : (g : JobEntry) → IsGone g → bytes_in g.standing ≡ 0
gone_bytes g gone = ap bytes_in gone.standing

pub bytes_there : (k : KeptJobs) → IsSound k → (n : ℕ) (e : JobEntry) → entry_at k n ≡ Some e → bytes_in e.standing ≤ k.held
bytes_there k sound n e at =
    let place = placed k sound n e at in
    let is : get_or (jobs_numbered k) (n - 1) e ≡ e = get_or_from_slice_get (jobs_numbered k) (n - 1) e e place in
    let most = get_or-le-sum_by (λ (x : JobEntry). bytes_in x.standing) (jobs_numbered k) (n - 1) e (slice_get_within (jobs_numbered k) (n - 1) e place) in
    let same : bytes_in (get_or (jobs_numbered k) (n - 1) e).standing ≡ bytes_in e.standing = ap (λ (x : JobEntry). bytes_in x.standing) is in
    let held = sound.held in
    omega (arith, most, same, held)

-- no report holds more than memory has
few_bytes : (standing : JobStanding) → bytes_in standing ≤ 378158756814977720320
few_bytes Open = omega arith
few_bytes (Failed code) = omega arith
few_bytes (Reported report) =
    let buffer = report.buffer.ok in
    let small = report.buffer.small in
    let tasks = report.tasks.ok in
    let few = report.tasks.small in
    omega (arith, buffer.0, buffer.1, small, tasks.0, tasks.1, few)

bytes_most : (jobs : List JobEntry) → bytes_held jobs ≤ length jobs * 378158756814977720320
bytes_most jobs = sum_by-le (λ (e : JobEntry). bytes_in e.standing) 378158756814977720320 jobs (λ i d lt. few_bytes (get_or jobs i d).standing)

-- ---- one more job

-- what its report holds fits
pub added_fits : (k : KeptJobs) (entry : JobEntry) → IsSound k → k.count < most_jobs → k.held + bytes_in entry.standing < 2 ^ 128
added_fits k entry sound room =
    let most = bytes_most (jobs_numbered k) in
    let one = few_bytes entry.standing in
    let long = listed_length (entry_at k) k.gone k.count in
    let was = sound.held in
    omega (arith, most, one, long, was, room)

module _ (k : KeptJobs) (entry : JobEntry) (after : KeptJobs) (sound : IsSound k) (room : k.count < most_jobs)
    (count : after.count ≡ k.count + 1) (gone : after.gone ≡ k.gone) (held : after.held ≡ k.held + bytes_in entry.standing)
    (here : entry_at after (k.count + 1) ≡ Some entry) (others : (m : ℕ) → m ≢ k.count + 1 → entry_at after m ≡ entry_at k m) where
  pub added_list : jobs_numbered after ≡ jobs_numbered k ++ entry ∷ []
  added_list =
      let number : k.count + 1 ≡ suc k.count = omega arith in
      ap (λ n. listed_jobs (entry_at after) after.gone n) (count ∙ number) ∙ ap (λ g. listed_jobs (entry_at after) g (suc k.count)) gone
      ∙ ap (λ xs. xs ++ unwrap_or (entry_at after (suc k.count)) k.gone ∷ [])
      (listed_same (entry_at k) (entry_at after) k.gone k.count (λ i lt. others (suc i) (λ same. absurd (omega (arith, lt, same)))))
      ∙ ap (λ o. jobs_numbered k ++ unwrap_or o k.gone ∷ []) (ap (entry_at after) (sym number) ∙ here)

  pub added_sound : IsSound after
  added_sound = record {
    gone = subst IsGone (sym gone) sound.gone;
    few = omega (arith, count, room);
    numbers = λ m x found. by m x found (cases_eq m (k.count + 1));
    held =
        let was = sound.held in
        let sum = sum_by_push (λ (e : JobEntry). bytes_in e.standing) (jobs_numbered k) entry in
        let same = ap bytes_held added_list in
        omega (arith, was, sum, same, held);
  }
    where
      by : (m : ℕ) (x : JobEntry) → entry_at after m ≡ Some x → (m ≡ k.count + 1) ⊎ (m ≢ k.count + 1) → (1 ≤ m) × (m ≤ after.count)
      by m x found (inl same) = (omega (arith, same), omega (arith, same, count))
      by m x found (inr apart) =
          let within = sound.numbers m x (sym (others m apart) ∙ found) in
          let most = within.1 in
          (within.0, omega (arith, most, count))

-- ---- an open job stands otherwise

module _ (k : KeptJobs) (sound : IsSound k) (n : ℕ) (e : JobEntry) (at : entry_at k n ≡ Some e) (opened : e.standing ≡ Open) (standing : JobStanding) where
  noted_bytes : bytes_held (slice_set (jobs_numbered k) (n - 1) (record e { standing = standing })) ≡ k.held + bytes_in standing
  noted_bytes =
      let sum = set_bytes (jobs_numbered k) (n - 1) e (record e { standing = standing }) (placed k sound n e at) in
      let none : bytes_in e.standing ≡ 0 = ap bytes_in opened in
      let was = sound.held in
      omega (arith, sum, none, was)

  pub noted_fits : k.held + bytes_in standing < 2 ^ 128
  noted_fits =
      let jobs = slice_set (jobs_numbered k) (n - 1) (record e { standing = standing }) in
      let most = bytes_most jobs in
      let sum = noted_bytes in
      let long : length jobs ≡ k.count = length-set (jobs_numbered k) (n - 1) (record e { standing = standing }) ∙ listed_length (entry_at k) k.gone k.count in
      let few = sound.few in
      omega (arith, most, sum, long, few)

  module _ (after : KeptJobs) (count : after.count ≡ k.count) (gone : after.gone ≡ k.gone) (held : after.held ≡ k.held + bytes_in standing)
      (here : entry_at after n ≡ Some (record e { standing = standing })) (others : (m : ℕ) → m ≢ n → entry_at after m ≡ entry_at k m) where
    pub noted_list : jobs_numbered after ≡ slice_set (jobs_numbered k) (n - 1) (record e { standing = standing })
    noted_list =
        let within = sound.numbers n e at in
        ap (λ c. listed_jobs (entry_at after) after.gone c) count ∙ ap (λ g. listed_jobs (entry_at after) g k.count) gone
        ∙ listed_set (entry_at k) (entry_at after) k.gone k.count n (Some (record e { standing = standing })) within.0 within.1 here others

    pub noted_sound : IsSound after
    noted_sound = record {
      gone = subst IsGone (sym gone) sound.gone;
      few = let few = sound.few in omega (arith, count, few);
      numbers = λ m x found. by m x found (cases_eq m n);
      held = held ∙ sym noted_bytes ∙ ap bytes_held (sym noted_list);
    }
      where
        by : (m : ℕ) (x : JobEntry) → entry_at after m ≡ Some x → (m ≡ n) ⊎ (m ≢ n) → (1 ≤ m) × (m ≤ after.count)
        by m x found (inl same) =
            let within = sound.numbers n e at in
            let some = within.0 in
            let most = within.1 in
            (omega (arith, same, some), omega (arith, same, most, count))
        by m x found (inr apart) =
            let within = sound.numbers m x (sym (others m apart) ∙ found) in
            let most = within.1 in
            (within.0, omega (arith, most, count))

-- ---- the same jobs

module _ (k after : KeptJobs) (count : after.count ≡ k.count) (gone : after.gone ≡ k.gone) (held : after.held ≡ k.held) (same : (m : ℕ) → entry_at after m ≡ entry_at k m) where
  pub same_list : jobs_numbered after ≡ jobs_numbered k
  same_list =
      ap (λ c. listed_jobs (entry_at after) after.gone c) count ∙ ap (λ g. listed_jobs (entry_at after) g k.count) gone
      ∙ listed_same (entry_at k) (entry_at after) k.gone k.count (λ i lt. same (suc i))

  pub same_sound : IsSound k → IsSound after
  same_sound sound = record {
    gone = subst IsGone (sym gone) sound.gone;
    few = let few = sound.few in omega (arith, count, few);
    numbers = λ m x found. let within = sound.numbers m x (sym (same m) ∙ found) in let most = within.1 in (within.0, omega (arith, most, count));
    held = held ∙ sound.held ∙ ap bytes_held (sym same_list);
  }
