-- Jobs that are forgotten one after the other.
use Rattle.std.proofs.Common.{◌≡◌, ◌≢◌, ◌⊎◌, ℕ, suc, ◌+◌, ◌-◌, ◌≤◌, ◌<◌, List, [], ◌∷◌, length, slice_get, slice_set, true, false, Some, None, refl, sym, ap, ◌∙◌, subst, inl, inr, arith}
use Rattle.std.proofs.lemmas.Bool.{cases_Bool, cases_eq, cases_lt}
use Rattle.std.proofs.lemmas.List.{length-set, same_lists}
use Rattle.std.proofs.lemmas.Option.{get_or_from_slice_get}
use Rattle.accounts.specs.declared.jobs.JobEntry.{JobEntry}
use Rattle.accounts.specs.declared.jobs.JobStanding.{JobStanding}
use Rattle.accounts.specs.declared.jobs.JobStanding.TheVariants.{Open, Reported, Failed}
use Rattle.accounts.specs.declared.keep_limits.KeepLimits.{KeepLimits}
use Rattle.accounts.specs.declared.kept_jobs.KeptJobs.{KeptJobs}
use Rattle.accounts.specs.Jobs.{is_open}
use Rattle.accounts.specs.Forgetting.{ForgetsJobs, IsGone, IsJobOver}
use Rattle.accounts.specs.Limits.{Exceeds, IsNeeded, IsKeptWithin, bytes_held, bytes_in}
use Rattle.accounts.specs.Numbered.{AreAllOpen, IsOldest, IsSound, jobs_numbered, entry_at, listed_jobs}
use Rattle.accounts.proofs.Listed.{get_set_apart, get_set_here, get_within, gone_bytes, job_here, listed_length, listed_set, placed, same_some, set_bytes, sum_first, there}

open_not_over : (X : Type 0) (e : JobEntry) → is_open e.standing ≡ true → IsJobOver e → X
open_not_over X e opened over = let clash : true ≡ false = sym opened ∙ over in absurd cc

-- each place of jobs of which some were forgotten
pub each_left : (old : List JobEntry) (ahead : ℕ) (new : List JobEntry) → ForgetsJobs old ahead new → (i : ℕ) (x y : JobEntry)
    → slice_get old i ≡ Some x → slice_get new i ≡ Some y → (x ≡ y) ⊎ (IsJobOver x × IsGone y)
each_left old ahead new f i x y at_old at_new = by_place (cases_lt i ahead) (cases_Bool (is_open x.standing))
  where
    as_it_was : (ahead ≤ i) ⊎ (is_open x.standing ≡ true) → (x ≡ y) ⊎ (IsJobOver x × IsGone y)
    as_it_was why = inl (same_some x y (sym (f.same i x at_old why) ∙ at_new))

    by_place : (i < ahead) ⊎ (ahead ≤ i) → (is_open x.standing ≡ true) ⊎ (is_open x.standing ≡ false) → (x ≡ y) ⊎ (IsJobOver x × IsGone y)
    by_place (inr behind) known = as_it_was (inl behind)
    by_place (inl less) (inl opened) = as_it_was (inr opened)
    by_place (inl less) (inr over) =
        let gone = f.gone i x less at_old over in
        inr (over, subst IsGone (same_some gone.0 y (sym gone.1 ∙ at_new)) gone.2)

-- none is forgotten
pub forgets_none : (jobs : List JobEntry) → ForgetsJobs jobs 0 jobs
forgets_none jobs = record {
  count = refl;
  gone = λ i entry less at over. absurd (omega (arith, less));
  same = λ i entry at why. at;
}

pub none_forgotten : (old new : List JobEntry) → ForgetsJobs old 0 new → new ≡ old
none_forgotten old new f =
    same_lists new old f.count
    (λ i d lt.
    let long = f.count in
    let was = get_within old i (omega (arith, lt, long)) in
    get_or_from_slice_get new i was.0 d (f.same i was.0 was.1 (inl (omega arith))) ∙ sym (get_or_from_slice_get old i was.0 d was.1))

pub none_forgotten_at : (old : List JobEntry) (ahead : ℕ) (new : List JobEntry) → ForgetsJobs old ahead new → ahead ≡ 0 → new ≡ old
none_forgotten_at old ahead new f none = none_forgotten old new (subst (λ (n : ℕ). ForgetsJobs old n new) none f)

-- ---- one more is forgotten

-- a job is taken out
pub record DropsOne (k : KeptJobs) (n : ℕ) (after : KeptJobs) : Type 0 where
  pub count : after.count ≡ k.count
  pub gone : after.gone ≡ k.gone
  pub here : entry_at after n ≡ None
  pub others : (m : ℕ) → m ≢ n → entry_at after m ≡ entry_at k m
  pub held : (e : JobEntry) → entry_at k n ≡ Some e → after.held + bytes_in e.standing ≡ k.held

module _ (k : KeptJobs) (n : ℕ) (after : KeptJobs) (sound : IsSound k) (d : DropsOne k n after) (e : JobEntry) (at : entry_at k n ≡ Some e) where
  pub dropped : jobs_numbered after ≡ slice_set (jobs_numbered k) (n - 1) k.gone
  dropped =
      let within = sound.numbers n e at in
      ap (λ c. listed_jobs (entry_at after) after.gone c) d.count ∙ ap (λ g. listed_jobs (entry_at after) g k.count) d.gone
      ∙ listed_set (entry_at k) (entry_at after) k.gone k.count n None within.0 within.1 d.here d.others

  left_bytes : bytes_held (jobs_numbered after) + bytes_in e.standing ≡ bytes_held (jobs_numbered k)
  left_bytes =
      let sum = set_bytes (jobs_numbered k) (n - 1) e k.gone (placed k sound n e at) in
      let none = gone_bytes k.gone sound.gone in
      let same = ap bytes_held dropped in
      omega (arith, sum, none, same)

  pub sound_after : IsSound after
  sound_after = record {
    gone = subst IsGone (sym d.gone) sound.gone;
    few = let count = d.count in let few = sound.few in omega (arith, count, few);
    numbers = λ m x there. by m x there (cases_eq m n);
    held = let sum = left_bytes in let held = d.held e at in let was = sound.held in omega (arith, sum, held, was);
  }
    where
      by : (m : ℕ) (x : JobEntry) → entry_at after m ≡ Some x → (m ≡ n) ⊎ (m ≢ n) → (1 ≤ m) × (m ≤ after.count)
      by m x found (inl same) = let clash : None ≡ Some x = sym d.here ∙ ap (entry_at after) (sym same) ∙ found in cc
      by m x found (inr apart) =
          let within = sound.numbers m x (sym (d.others m apart) ∙ found) in
          let most = within.1 in
          let count = d.count in
          (within.0, omega (arith, most, count))

-- so many were looked at, and those that are over are forgotten
pub record IsForgotten (old : List JobEntry) (done : ℕ) (k : KeptJobs) : Type 0 where
  pub sound : IsSound k
  pub jobs : ForgetsJobs old done (jobs_numbered k)
  pub later : (m : ℕ) (e : JobEntry) → entry_at k m ≡ Some e → IsJobOver e → done < m

pub forgotten_none : (k : KeptJobs) → IsSound k → IsForgotten (jobs_numbered k) 0 k
forgotten_none k sound = record {
  sound = sound;
  jobs = forgets_none (jobs_numbered k);
  later = λ m e at over. let some = (sound.numbers m e at).0 in omega (arith, some);
}

module _ (old : List JobEntry) (done : ℕ) (k : KeptJobs) (f : IsForgotten old done k) where
  -- as many as there were
  pub counted : length old ≡ k.count
  counted = sym f.jobs.count ∙ listed_length (entry_at k) k.gone k.count

  -- what is over and not looked at yet stands as it was
  pub not_yet : (n : ℕ) (e : JobEntry) → entry_at k n ≡ Some e → IsJobOver e → slice_get old (n - 1) ≡ Some e
  not_yet n e at over =
      let within = f.sound.numbers n e at in
      let some = within.0 in
      let most = within.1 in
      let long = counted in
      let was = get_within old (n - 1) (omega (arith, some, most, long)) in
      let later = f.later n e at over in
      let is = same_some was.0 e (sym (f.jobs.same (n - 1) was.0 was.1 (inl (omega (arith, later)))) ∙ placed k f.sound n e at) in
      was.1 ∙ ap Some is

  -- a place that was looked at, or has nothing to forget
  gone_there : (ahead i : ℕ) (e : JobEntry) → slice_get old i ≡ Some e → IsJobOver e
      → ((x : JobEntry) → entry_at k (suc i) ≡ Some x → IsJobOver x → ⊥)
      → (x : JobEntry) × (slice_get (jobs_numbered k) i ≡ Some x) × IsGone x
  gone_there ahead i e at over none = by_place (cases_lt i done)
    where
      by_place : (i < done) ⊎ (done ≤ i) → (x : JobEntry) × (slice_get (jobs_numbered k) i ≡ Some x) × IsGone x
      by_place (inl less) = f.jobs.gone i e less at over
      by_place (inr behind) = by (there k i e now).1
        where
          now : slice_get (jobs_numbered k) i ≡ Some e
          now = f.jobs.same i e at (inl behind)

          by : (entry_at k (suc i) ≡ Some e) ⊎ ((entry_at k (suc i) ≡ None) × (k.gone ≡ e)) → (x : JobEntry) × (slice_get (jobs_numbered k) i ≡ Some x) × IsGone x
          by (inl found) = absurd (none e found over)
          by (inr gone) = (e, now, subst IsGone gone.1 f.sound.gone)

  -- all of them are forgotten that stand among the first so many
  pub forgets_all : (ahead : ℕ) → done ≤ ahead → ((m : ℕ) (e : JobEntry) → entry_at k m ≡ Some e → IsJobOver e → ahead < m)
      → ForgetsJobs old ahead (jobs_numbered k)
  forgets_all ahead most none = record {
    count = f.jobs.count;
    gone = λ i e less at over. gone_there ahead i e at over (λ x found is_over. let more = none (suc i) x found is_over in absurd (omega (arith, less, more)));
    same = λ i e at why. f.jobs.same i e at (as_far i e why);
  }
    where
      as_far : (i : ℕ) (e : JobEntry) → (ahead ≤ i) ⊎ (is_open e.standing ≡ true) → (done ≤ i) ⊎ (is_open e.standing ≡ true)
      as_far i e (inl behind) = inl (omega (arith, behind, most))
      as_far i e (inr opened) = inr opened

  -- the next one
  module _ (n : ℕ) (after : KeptJobs) (o : IsOldest (entry_at k) n) (d : DropsOne k n after) where
    next_list : jobs_numbered after ≡ slice_set (jobs_numbered k) (n - 1) k.gone
    next_list = dropped k n after f.sound d o.entry o.there

    some : 1 ≤ n
    some = (f.sound.numbers n o.entry o.there).0

    here_gone : slice_get (jobs_numbered after) (n - 1) ≡ Some k.gone
    here_gone =
        let within = f.sound.numbers n o.entry o.there in
        let least = within.0 in
        let most = within.1 in
        let long = listed_length (entry_at k) k.gone k.count in
        ap (λ js. slice_get js (n - 1)) next_list ∙ get_set_here (jobs_numbered k) (n - 1) k.gone (omega (arith, least, most, long))

    elsewhere : (i : ℕ) → i ≢ n - 1 → slice_get (jobs_numbered after) i ≡ slice_get (jobs_numbered k) i
    elsewhere i apart = ap (λ js. slice_get js i) next_list ∙ get_set_apart (jobs_numbered k) (n - 1) i k.gone apart

    pub next_jobs : ForgetsJobs old n (jobs_numbered after)
    next_jobs = record {
      count = ap length next_list ∙ length-set (jobs_numbered k) (n - 1) k.gone ∙ f.jobs.count;
      gone = λ i e less at over. gone_so i e less at over (cases_eq i (n - 1));
      same = λ i e at why. same_so i e at why (cases_eq i (n - 1));
    }
      where
        gone_so : (i : ℕ) (e : JobEntry) → i < n → slice_get old i ≡ Some e → IsJobOver e → (i ≡ n - 1) ⊎ (i ≢ n - 1)
            → (x : JobEntry) × (slice_get (jobs_numbered after) i ≡ Some x) × IsGone x
        gone_so i e less at over (inl same) = (k.gone, ap (slice_get (jobs_numbered after)) same ∙ here_gone, f.sound.gone)
        gone_so i e less at over (inr apart) =
            let was = gone_there n i e at over (λ x found is_over. open_not_over ⊥ x (o.first (suc i) x (let least = some in omega (arith, less, apart, least)) found) is_over) in
            (was.0, elsewhere i apart ∙ was.1, was.2)

        same_so : (i : ℕ) (e : JobEntry) → slice_get old i ≡ Some e → (n ≤ i) ⊎ (is_open e.standing ≡ true) → (i ≡ n - 1) ⊎ (i ≢ n - 1)
            → slice_get (jobs_numbered after) i ≡ Some e
        same_so i e at (inl behind) (inl same) = let least = some in absurd (omega (arith, behind, same, least))
        same_so i e at (inl behind) (inr apart) =
            let later = f.later n o.entry o.there o.over in
            elsewhere i apart ∙ f.jobs.same i e at (inl (omega (arith, behind, later)))
        same_so i e at (inr opened) (inl same) =
            let is : e ≡ o.entry = same_some e o.entry (sym at ∙ ap (slice_get old) same ∙ not_yet n o.entry o.there o.over) in
            open_not_over (slice_get (jobs_numbered after) i ≡ Some e) e opened (ap (λ (x : JobEntry). is_open x.standing) is ∙ o.over)
        same_so i e at (inr opened) (inr apart) = elsewhere i apart ∙ f.jobs.same i e at (inr opened)

    pub forgotten_one : IsForgotten old n after
    forgotten_one = record {
      sound = sound_after k n after f.sound d o.entry o.there;
      jobs = next_jobs;
      later = λ m e found over. by m e found over (cases_eq m n);
    }
      where
        behind : (m : ℕ) (e : JobEntry) → entry_at k m ≡ Some e → IsJobOver e → m ≢ n → (m < n) ⊎ (n ≤ m) → n < m
        behind m e found over apart (inl less) = open_not_over (n < m) e (o.first m e less found) over
        behind m e found over apart (inr more) = omega (arith, more, apart)

        by : (m : ℕ) (e : JobEntry) → entry_at after m ≡ Some e → IsJobOver e → (m ≡ n) ⊎ (m ≢ n) → n < m
        by m e found over (inl same) = let clash : None ≡ Some e = sym d.here ∙ ap (entry_at after) (sym same) ∙ found in cc
        by m e found over (inr apart) = behind m e (sym (d.others m apart) ∙ found) over apart (cases_lt m n)

    -- it had to be forgotten
    pub next_needed : (limits : KeepLimits) → Exceeds limits n k.count k.held → IsNeeded limits old n (jobs_numbered after)
    next_needed limits why = record {
      entry = o.entry;
      at = job_here old n o.entry some (not_yet n o.entry o.there o.over);
      over = o.over;
      why =
          let P : ℕ × ℕ → Type 0 = λ p. Exceeds limits n p.0 p.1 in
          let held : k.held ≡ bytes_held (jobs_numbered after) + bytes_in o.entry.standing =
          f.sound.held ∙ sym (left_bytes k n after f.sound d o.entry o.there) in
          subst P (λ i. (sym counted i, held i)) why;
    }

-- ---- the end

-- what is left, and the need of it
pub record IsKept (limits : KeepLimits) (old : List JobEntry) (done : ℕ) (k : KeptJobs) : Type 0 where
  pub forgotten : IsForgotten old done k
  pub needed : (done ≡ 0) ⊎ IsNeeded limits old done (jobs_numbered k)

-- no bytes are held where nothing is over
none_held : (jobs : List JobEntry) → ((i : ℕ) (e : JobEntry) → slice_get jobs i ≡ Some e → bytes_in e.standing ≡ 0) → bytes_held jobs ≡ 0
none_held [] none = refl
none_held (x ∷ xs) none =
    let first : bytes_in x.standing ≡ 0 = none 0 x refl in
    let later : bytes_held xs ≡ 0 = none_held xs (λ n y at. none (suc n) y at) in
    let whole = sum_first (λ (e : JobEntry). bytes_in e.standing) x xs in
    omega (arith, first, later, whole)

open_bytes : (standing : JobStanding) → is_open standing ≡ true → bytes_in standing ≡ 0
open_bytes Open opened = refl
open_bytes (Reported report) opened = cc
open_bytes (Failed code) opened = cc

module _ (limits : KeepLimits) (old : List JobEntry) (done : ℕ) (k : KeptJobs) (kept : IsKept limits old done k) where
  pub within_open : AreAllOpen (entry_at k) → IsKeptWithin limits old done (jobs_numbered k)
  within_open opened = record {
    last = λ some i e at ahead. by (suc i) e (there k i e at).1;
    small = λ some. let none = none_held (jobs_numbered k) (λ i e at. bytes e (by (suc i) e (there k i e at).1)) in omega (arith, none);
    needed = kept.needed;
  }
    where
      by : (n : ℕ) (e : JobEntry) → (entry_at k n ≡ Some e) ⊎ ((entry_at k n ≡ None) × (k.gone ≡ e)) → (is_open e.standing ≡ true) ⊎ IsGone e
      by n e (inl found) = inl (opened n e found)
      by n e (inr gone) = inr (subst IsGone gone.1 kept.forgotten.sound.gone)

      bytes : (e : JobEntry) → (is_open e.standing ≡ true) ⊎ IsGone e → bytes_in e.standing ≡ 0
      bytes e (inl is) = open_bytes e.standing is
      bytes e (inr gone) = gone_bytes e gone

  pub within_first : (n : ℕ) → IsOldest (entry_at k) n → (Exceeds limits n k.count k.held → ⊥) → IsKeptWithin limits old done (jobs_numbered k)
  within_first n o enough = record {
    last = λ some i e at ahead. by some i e ahead (there k i e at).1 (cases_Bool (is_open e.standing));
    small = λ some. by_bytes some (cases_lt limits.bytes k.held);
    needed = kept.needed;
  }
    where
      by_bytes : 1 ≤ limits.bytes → (limits.bytes < k.held) ⊎ (k.held ≤ limits.bytes) → bytes_held (jobs_numbered k) ≤ limits.bytes
      by_bytes some (inl over) = absurd (enough (inr (some, over)))
      by_bytes some (inr small) = let held = kept.forgotten.sound.held in omega (arith, held, small)

      by : 1 ≤ limits.jobs → (i : ℕ) (e : JobEntry) → i + 1 + limits.jobs ≤ length (jobs_numbered k)
          → (entry_at k (suc i) ≡ Some e) ⊎ ((entry_at k (suc i) ≡ None) × (k.gone ≡ e)) → (is_open e.standing ≡ true) ⊎ (is_open e.standing ≡ false)
          → (is_open e.standing ≡ true) ⊎ IsGone e
      by some i e ahead (inr gone) known = inr (subst IsGone gone.1 kept.forgotten.sound.gone)
      by some i e ahead (inl found) (inl opened) = inl opened
      by some i e ahead (inl found) (inr over) = by_place (cases_lt (suc i) n)
        where
          by_place : (suc i < n) ⊎ (n ≤ suc i) → (is_open e.standing ≡ true) ⊎ IsGone e
          by_place (inl less) = inl (o.first (suc i) e less found)
          by_place (inr more) =
              let long = listed_length (entry_at k) k.gone k.count in
              absurd (enough (inl (some, omega (arith, ahead, more, long))))

-- what is over is as far as the first that is
pub past_first : (k : KeptJobs) (n ahead : ℕ) → IsOldest (entry_at k) n → ahead < n → (m : ℕ) (e : JobEntry) → entry_at k m ≡ Some e → IsJobOver e → ahead < m
past_first k n ahead o more m e at over = by (cases_lt m n)
  where
    by : (m < n) ⊎ (n ≤ m) → ahead < m
    by (inl less) = open_not_over (ahead < m) e (o.first m e less at) over
    by (inr as_far) = omega (arith, more, as_far)

pub past_open : (k : KeptJobs) (ahead : ℕ) → AreAllOpen (entry_at k) → (m : ℕ) (e : JobEntry) → entry_at k m ≡ Some e → IsJobOver e → ahead < m
past_open k ahead opened m e at over = open_not_over (ahead < m) e (opened m e at) over
