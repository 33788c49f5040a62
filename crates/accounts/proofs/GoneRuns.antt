-- Forgotten jobs that are added behind the others.
use Rattle.std.proofs.Common.{◌≡◌, ◌≢◌, ℕ, zero, suc, ◌+◌, ◌≤◌, ◌<◌, List, [], ◌∷◌, ◌++◌, All, length, replicate, sum_by, get_or, slice_get, Option, Some, None, unwrap_or, refl, sym, ap, ◌∙◌, subst, arith, append_assoc, append-nil}
use Rattle.std.proofs.lemmas.List.Sums.{sum_by-append}
use Rattle.std.proofs.lemmas.Option.{slice_get_within, get_or_from_slice_get}
use Rattle.accounts.specs.declared.jobs.JobEntry.{JobEntry}
use Rattle.accounts.specs.declared.kept_jobs.KeptJobs.{KeptJobs}
use Rattle.accounts.specs.Forgetting.{IsGone}
use Rattle.accounts.specs.Limits.{bytes_in, bytes_held}
use Rattle.accounts.specs.Numbered.{IsSound, jobs_numbered, entry_at, listed_jobs, most_jobs}
use Rattle.accounts.proofs.Keeping.{sum_none}
use Rattle.accounts.proofs.Listed.{gone_bytes, listed_same}

-- ---- lists of gone jobs

replicate_behind : {X : Type 0} (n : ℕ) (x : X) → replicate n x ++ x ∷ [] ≡ replicate (suc n) x
replicate_behind zero x = refl
replicate_behind (suc n) x = ap (λ xs. x ∷ xs) (replicate_behind n x)

replicate_long : {X : Type 0} (n : ℕ) (x : X) → length (replicate n x) ≡ n
replicate_long zero x = refl
replicate_long (suc n) x = ap suc (replicate_long n x)

all_gone : (n : ℕ) (g : JobEntry) → IsGone g → (k : ℕ) (d : JobEntry) → k < length (replicate n g)
    → IsGone (get_or (replicate n g) k d)
all_gone zero g gone k d lt = absurd (omega (arith, lt))
all_gone (suc n) g gone zero d lt = gone
all_gone (suc n) g gone (suc k) d lt = all_gone n g gone k d (omega (arith, lt))

pub gone_at : (gone : List JobEntry) → All IsGone gone → (n : ℕ) (e : JobEntry) → slice_get gone n ≡ Some e → IsGone e
gone_at gone are n e at = subst IsGone (get_or_from_slice_get gone n e e at) (are n e (slice_get_within gone n e at))

-- what is nothing for a gone job is nothing for all of them
pub gone_sum : (f : JobEntry → ℕ) → ((e : JobEntry) → IsGone e → f e ≡ 0) → (jobs gone : List JobEntry) → All IsGone gone
    → sum_by f (jobs ++ gone) ≡ sum_by f jobs
gone_sum f none jobs gone are =
    let all = sum_by-append f jobs gone in
    let rest : sum_by f gone ≡ 0 = sum_none f gone (λ n e at. none e (gone_at gone are n e at)) in
    omega (arith, all, rest)

-- ---- jobs by their numbers

more_gone : (f : ℕ → Option JobEntry) (g : JobEntry) (n : ℕ) → ((m : ℕ) → n < m → f m ≡ None) → (c : ℕ)
    → listed_jobs f g (n + c) ≡ listed_jobs f g n ++ replicate c g
more_gone f g n none zero = let whole : n + 0 ≡ n = omega arith in ap (listed_jobs f g) whole ∙ sym (append-nil (listed_jobs f g n))
more_gone f g n none (suc c) =
    let next : n + suc c ≡ suc (n + c) = omega arith in
    ap (listed_jobs f g) next ∙ ap (λ o. listed_jobs f g (n + c) ++ unwrap_or o g ∷ []) (none (suc (n + c)) (omega arith))
    ∙ ap (λ xs. xs ++ g ∷ []) (more_gone f g n none c)
    ∙ append_assoc (listed_jobs f g n) (replicate c g) (g ∷ [])
    ∙ ap (λ xs. listed_jobs f g n ++ xs) (replicate_behind c g)

module _ (k : KeptJobs) (sound : IsSound k) (c : ℕ) (after : KeptJobs) (count : after.count ≡ k.count + c) (gone : after.gone ≡ k.gone)
    (held : after.held ≡ k.held) (same : (m : ℕ) → entry_at after m ≡ entry_at k m) where
  past : (m : ℕ) → k.count < m → entry_at k m ≡ None
  past m more = by (entry_at k m) refl
    where
      by : (o : Option JobEntry) → entry_at k m ≡ o → entry_at k m ≡ None
      by None is = is
      by (Some e) is = let most = (sound.numbers m e is).1 in absurd (omega (arith, more, most))

  pub run_list : jobs_numbered after ≡ jobs_numbered k ++ replicate c k.gone
  run_list =
      ap (λ n. listed_jobs (entry_at after) after.gone n) count ∙ ap (λ g. listed_jobs (entry_at after) g (k.count + c)) gone
      ∙ more_gone (entry_at after) k.gone k.count (λ m more. same m ∙ past m more) c
      ∙ ap (λ xs. xs ++ replicate c k.gone) (listed_same (entry_at k) (entry_at after) k.gone k.count (λ i lt. same (suc i)))

  pub run_sound : k.count + c ≤ most_jobs → IsSound after
  run_sound few = record {
    gone = subst IsGone (sym gone) sound.gone;
    few = omega (arith, count, few);
    numbers = λ m e found. let within = sound.numbers m e (sym (same m) ∙ found) in let most = within.1 in (within.0, omega (arith, most, count));
    held = held ∙ sound.held ∙ sym (gone_sum (λ e. bytes_in e.standing) gone_bytes (jobs_numbered k) (replicate c k.gone) (all_gone c k.gone sound.gone)) ∙ ap bytes_held (sym run_list);
  }

  pub added_run : (gone : List JobEntry) × (length gone ≡ c) × All IsGone gone × (jobs_numbered after ≡ jobs_numbered k ++ gone)
  added_run = (replicate c k.gone, replicate_long c k.gone, all_gone c k.gone sound.gone, run_list)
