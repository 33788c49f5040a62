-- Where no job is known at first, those that are known are those that were taken.
use Rattle.std.proofs.Common.{◌≡◌, ◌+◌, ◌-◌, ◌≤◌, ℕ, zero, suc, Bool, false, nat_eq, if◌then◌else◌, arith, List, [], ◌∷◌, ◌++◌, length, map, slice_get, Option, Some, None, option_map, Result, refl, sym, ap, subst, ◌∙◌}
use Rattle.std.proofs.lemmas.Bool.Decides.{nat_tests}
use Rattle.std.proofs.lemmas.List.{length-map, map-append}
use Rattle.std.proofs.lemmas.Option.{slice_get-map}
use Rattle.serde_json.specs.Data.{Data}
use Rattle.credit_book.specs.declared.book.Report.{Report}
use Rattle.job_core.specs.Admitted.{AdmittedJob}
use Rattle.accounts.specs.declared.keep_limits.KeepLimits.{KeepLimits}
use Rattle.shared_desk.specs.Histories.{HistoryEntry}
use Rattle.job_server.specs.AfterRestart.{AreKnown, IsResultKnown, IsToldKnown, Itself, KnownJob, Over, forgotten, known_at, no_more, none_yet, not_over, failed, one_more, reported, unknown, was_over}
use Rattle.job_server.specs.EndToEnd.{AreTaken, none_yet as none_taken, one_more as one_taken, no_more as none_more, IsResultOf, reported as is_reported, failed as is_failed, not_over as is_not_over, forgotten as is_forgotten, unknown as is_unknown, IsSubmit, IsToldResult, MayBeForgotten, taken_at}
use Rattle.job_server.proofs.HistoryStands.{known_is}

pub taken_is : (jobs : List AdmittedJob) (number : ℕ) → 1 ≤ number → taken_at jobs number ≡ slice_get jobs (number - 1)
taken_is jobs number some =
    let apart : nat_eq number 0 ≡ false = grind (arith, nat_tests) in
    ap (λ (b : Bool). if◌then◌else◌ {A = Option AdmittedJob} b None (slice_get jobs (number - 1))) apart

map_at : (jobs : List AdmittedJob) (number : ℕ) → known_at (map Itself jobs) number ≡ option_map Itself (taken_at jobs number)
map_at jobs zero = refl
map_at jobs (suc n) =
    known_is (map Itself jobs) (suc n) (omega arith) ∙ slice_get-map Itself jobs (suc n - 1) ∙ ap (option_map Itself) (sym (taken_is jobs (suc n) (omega arith)))

-- ---- the jobs

pub record AreTakenJobs (history : List HistoryEntry) (known : List KnownJob) : Type 0 where
  pub jobs : List AdmittedJob
  pub are : known ≡ map Itself jobs
  pub taken : AreTaken history jobs

pub as_taken : (history : List HistoryEntry) (known : List KnownJob) → AreKnown [] history known → AreTakenJobs history known
as_taken _ _ none_yet = record { jobs = []; are = refl; taken = none_taken }
as_taken _ _ (no_more history known e before no_job) =
    let t = as_taken history known before in
    record { jobs = t.jobs; are = t.are; taken = none_more history t.jobs e t.taken no_job }
as_taken _ _ (one_more history known e job before is_submit) =
    let t = as_taken history known before in
    record {
      jobs = t.jobs ++ job ∷ [];
      are = ap (λ l. l ++ Itself job ∷ []) t.are ∙ sym (map-append Itself t.jobs (job ∷ []));
      taken = one_taken history t.jobs e job t.taken (subst (λ (n : ℕ). IsSubmit e (n + 1) job) (ap length t.are ∙ length-map t.jobs Itself) is_submit);
    }

-- ---- the result

module _ (keep : KeepLimits) (jobs : List AdmittedJob) (number : ℕ) where
  found : (job : AdmittedJob) (o : Option AdmittedJob) → option_map Itself o ≡ Some (Itself job) → o ≡ Some job
  found job None is = cc
  found job (Some j) is = cc

  not_found : (o : Option AdmittedJob) → option_map Itself o ≡ None → o ≡ None
  not_found None is = refl
  not_found (Some j) is = cc

  some_found : (job : KnownJob) (o : Option AdmittedJob) → option_map Itself o ≡ Some job → (j : AdmittedJob) × (o ≡ Some j)
  some_found job None is = cc
  some_found job (Some j) is = (j, refl)

  none_over : (outcome : Result Report ℕ) (o : Option AdmittedJob) → option_map Itself o ≡ Some (Over outcome) → ⊥
  none_over outcome None is = cc
  none_over outcome (Some j) is = cc

  job_found : (job : AdmittedJob) → known_at (map Itself jobs) number ≡ Some (Itself job) → taken_at jobs number ≡ Some job
  job_found job at = found job (taken_at jobs number) (sym (map_at jobs number) ∙ at)

  as_result : (told : Data) → IsResultKnown keep (map Itself jobs) number told → IsResultOf keep jobs number told
  as_result _ (reported job report at run) = is_reported job report (job_found job at) run
  as_result _ (failed job code at fails) = is_failed job code (job_found job at) fails
  as_result _ (was_over outcome at) = absurd (none_over outcome (taken_at jobs number) (sym (map_at jobs number) ∙ at))
  as_result _ (not_over job at) = is_not_over job (job_found job at)
  as_result _ (forgotten job at may) =
      let there = some_found job (taken_at jobs number) (sym (map_at jobs number) ∙ at) in
      is_forgotten there.0 there.1 (subst (MayBeForgotten keep number) (length-map jobs Itself) may)
  as_result _ (unknown at) = is_unknown (not_found (taken_at jobs number) (sym (map_at jobs number) ∙ at))

pub as_told : (keep : KeepLimits) (before : List HistoryEntry) (number : ℕ) (e : HistoryEntry) → IsToldKnown keep [] before number e → IsToldResult keep before number e
as_told keep before number e t =
    let jobs = as_taken before t.known t.taken in
    record {
      jobs = jobs.jobs;
      taken = jobs.taken;
      told = t.told;
      tells = t.tells;
      is_result = as_result keep jobs.jobs number t.told (subst (λ (k : List KnownJob). IsResultKnown keep k number t.told) jobs.are t.is_result);
    }
