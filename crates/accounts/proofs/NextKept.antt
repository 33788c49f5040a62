-- The next job that isn't gone.
use Rattle.std.proofs.Common.{◌≡◌, ◌⊎◌, ℕ, zero, ◌+◌, ◌-◌, ◌≤◌, ◌<◌, List, length, Option, Some, None, refl, sym, ap, ◌∙◌, subst, inl, inr, arith}
use Rattle.std.proofs.lemmas.Bool.{cases_lt}
use Rattle.accounts.specs.declared.jobs.JobEntry.{JobEntry}
use Rattle.accounts.specs.declared.kept_jobs.KeptJobs.{KeptJobs}
use Rattle.accounts.specs.Jobs.{job_at}
use Rattle.accounts.specs.Forgetting.{IsGone}
use Rattle.accounts.specs.Numbered.{IsSound, jobs_numbered, entry_at}
use Rattle.accounts.specs.Restoring.{IsNextKept}
use Rattle.accounts.proofs.Listed.{get_within, job_is, job_missing, job_none, listed_length, same_some}
use Rattle.accounts.proofs.Listings.{number_within}

-- each job from a number on and ahead of another is gone
pub record AreGoneTo (jobs : List JobEntry) (number next : ℕ) : Type 0 where
  pub later : number ≤ next
  pub between : (n : ℕ) (entry : JobEntry) → number ≤ n → n < next → job_at jobs n ≡ Some entry → IsGone entry

pub gone_to_start : (jobs : List JobEntry) (number : ℕ) → AreGoneTo jobs number number
gone_to_start jobs number = record {
  later = omega arith;
  between = λ n entry least less at. absurd (omega (arith, least, less));
}

module _ (k : KeptJobs) (sound : IsSound k) where
  -- a number without an entry is that of a gone job, or of none
  pub gone_where_none : (n : ℕ) (entry : JobEntry) → entry_at k n ≡ None → job_at (jobs_numbered k) n ≡ Some entry → IsGone entry
  gone_where_none zero entry none at = cc
  gone_where_none n entry none at = by (cases_lt k.count n) (cases_lt n 1)
    where
      by : (k.count < n) ⊎ (n ≤ k.count) → (n < 1) ⊎ (1 ≤ n) → IsGone entry
      by (inl past) some = let clash : None ≡ Some entry = job_none k n past ∙ at in cc
      by (inr most) (inl no_number) = let is : n ≡ 0 = omega (arith, no_number) in let clash : None ≡ Some entry = ap (job_at (jobs_numbered k)) (sym is) ∙ at in cc
      by (inr most) (inr some) = subst IsGone (same_some k.gone entry (job_missing k n some most none ∙ at)) sound.gone

  module _ (number next here : ℕ) (g : AreGoneTo (jobs_numbered k) number next) (later : next ≤ here)
      (none : (n : ℕ) → next ≤ n → n < here → entry_at k n ≡ None) where
    pub gone_to_here : AreGoneTo (jobs_numbered k) number here
    gone_to_here = record {
      later = let first = g.later in omega (arith, first, later);
      between = λ n entry least less at. by n entry least less at (cases_lt n next);
    }
      where
        by : (n : ℕ) (entry : JobEntry) → number ≤ n → n < here → job_at (jobs_numbered k) n ≡ Some entry → (n < next) ⊎ (next ≤ n) → IsGone entry
        by n entry least less at (inl ahead) = g.between n entry least ahead at
        by n entry least less at (inr behind) = gone_where_none n entry (none n behind less) at

-- one more of them is gone
pub gone_one_more : (jobs : List JobEntry) (number here : ℕ) (entry : JobEntry) → AreGoneTo jobs number here → job_at jobs here ≡ Some entry → IsGone entry
    → AreGoneTo jobs number (here + 1)
gone_one_more jobs number here entry g at gone = record {
  later = let first = g.later in omega (arith, first);
  between = λ n other least less found. by n other least less found (cases_lt n here);
}
  where
    by : (n : ℕ) (other : JobEntry) → number ≤ n → n < here + 1 → job_at jobs n ≡ Some other → (n < here) ⊎ (here ≤ n) → IsGone other
    by n other least less found (inl ahead) = g.between n other least ahead found
    by n other least less found (inr behind) =
        let is : n ≡ here = omega (arith, less, behind) in
        subst IsGone (same_some entry other (sym at ∙ ap (job_at jobs) (sym is) ∙ found)) gone

-- ---- what is told of them

module _ (k : KeptJobs) (sound : IsSound k) (jobs : List JobEntry) (is : jobs_numbered k ≡ jobs) (number next : ℕ) (some : 1 ≤ number)
    (g : AreGoneTo jobs number next) where
  long : length jobs ≡ k.count
  long = ap length (sym is) ∙ listed_length (entry_at k) k.gone k.count

  none_behind : (n : ℕ) (entry : JobEntry) → k.count < n → job_at jobs n ≡ Some entry → ⊥
  none_behind n entry past at = let clash : None ≡ Some entry = job_none k n past ∙ ap (λ js. job_at js n) is ∙ at in cc

  -- the loop ended by its test
  pub next_behind : k.count < next → (next ≡ number) ⊎ (next ≤ k.count + 1) → IsNextKept jobs number next
  next_behind past first = record {
    later = g.later;
    between = g.between;
    here = λ entry at gone. none_behind next entry past at;
    first = by first;
  }
    where
      by : (next ≡ number) ⊎ (next ≤ k.count + 1) → (next ≡ number) ⊎ (next ≤ length jobs + 1)
      by (inl same) = inl same
      by (inr most) = let count = long in inr (omega (arith, most, count))

  module _ (here : ℕ) (later : next ≤ here) (none : (n : ℕ) → next ≤ n → n < here → entry_at k n ≡ None) where
    to_here : AreGoneTo jobs number here
    to_here = subst (λ (js : List JobEntry). AreGoneTo js number here) is
        (gone_to_here k sound number next here (subst (λ (js : List JobEntry). AreGoneTo js number next) (sym is) g) later none)

    -- no job has a number from there on
    pub next_none : next ≤ k.count → job_at jobs here ≡ None → IsNextKept jobs number (k.count + 1)
    next_none within missing = record {
      later = let first = g.later in omega (arith, first, within);
      between = λ n entry least less at. to_here.between n entry least (omega (arith, less, past)) at;
      here = λ entry at gone. none_behind (k.count + 1) entry (omega arith) at;
      first = let count = long in inr (omega (arith, count));
    }
      where
        past : k.count < here
        past = by (cases_lt k.count here)
          where
            by : (k.count < here) ⊎ (here ≤ k.count) → k.count < here
            by (inl more) = more
            by (inr most) =
                let first = g.later in
                let least : 1 ≤ here = omega (arith, some, first, later) in
                let count = long in
                let there = get_within jobs (here - 1) (omega (arith, least, most, count)) in
                let clash : None ≡ Some there.0 = sym missing ∙ job_is jobs here least ∙ there.1 in
                cc

    module _ (entry : JobEntry) (at : job_at jobs here ≡ Some entry) where
      within : here ≤ length jobs
      within = let first = g.later in number_within jobs here entry (omega (arith, some, first, later)) at

      pub here_fits : here ≤ k.count
      here_fits = let most = within in let count = long in omega (arith, most, count)

      -- the job there is kept
      pub next_there : (IsGone entry → ⊥) → IsNextKept jobs number here
      next_there kept = record {
        later = to_here.later;
        between = to_here.between;
        here = λ other found gone. kept (subst IsGone (same_some other entry (sym found ∙ at)) gone);
        first = let most = within in inr (omega (arith, most));
      }

      -- or gone as well
      pub next_further : IsGone entry → AreGoneTo jobs number (here + 1)
      next_further gone = gone_one_more jobs number here entry to_here at gone
