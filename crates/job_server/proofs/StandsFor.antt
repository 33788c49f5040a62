-- The jobs of a desk stand for those that are known, which a runner holds until they are over.
use Rattle.std.proofs.Common.{◌≡◌, ◌≢◌, ◌⊎◌, ◌+◌, ◌-◌, ◌<◌, ◌≤◌, ℕ, zero, suc, Bool, true, false, List, [], ◌∷◌, ◌++◌, length, slice_get, slice_set, nat_eq, if◌then◌else◌, Option, Some, None, Result, Ok, Err, refl, sym, ap, subst, ◌∙◌, inl, inr, arith}
use Rattle.std.proofs.lemmas.Bool.{cases_lt}
use Rattle.std.proofs.lemmas.Bool.Decides.{nat_tests}
use Rattle.std.proofs.lemmas.Option.{slice_get_within}
use Rattle.credit_book.specs.declared.book.Report.{Report}
use Rattle.accounts.specs.declared.keep_limits.KeepLimits.{KeepLimits}
use Rattle.accounts.specs.declared.jobs.JobEntry.{JobEntry}
use Rattle.accounts.specs.declared.jobs.JobStanding.{JobStanding}
use Rattle.accounts.specs.declared.jobs.JobStanding.TheVariants.{Open, Reported, Failed}
use Rattle.job_core.specs.Admitted.{AdmittedJob}
use Rattle.accounts.specs.Jobs.{job_at, settled}
use Rattle.accounts.specs.Ledgers.{Ledger, Finishes, KeepsWithin}
use Rattle.accounts.specs.Forgetting.{ForgetsJobs, IsGone, IsJobOver}
use Rattle.accounts.specs.Limits.{Exceeds, IsNeeded, IsKeptWithin, bytes_held, bytes_in}
use Rattle.accounts.proofs.Forgets.{each_left}
use Rattle.accounts.proofs.Listed.{get_within, same_some}
use Rattle.streams.specs.Passing.{Notes}
use Rattle.job_pools.specs.Endings.{IsRun, IsEndOf}
use Rattle.job_server.specs.AfterRestart.{KnownJob, Itself, Over, over_standing}
use Rattle.job_server.specs.EndToEnd.{FailsBy, MayBeForgotten}
use Rattle.desk_journal.proofs.OpenLemmas.{get_pushed, length_set}
use Rattle.job_server.proofs.ListEnds.{length_pushed, get_set, within_get}

-- The standing of a job of this credit says what became of the job that is known under the number.
abbrev pub StandsFor : Option AdmittedJob → KeepLimits → ℕ → ℕ → KnownJob → ℕ → JobStanding → Type 0
StandsFor held keep count number (Itself job) credit Open = (held ≡ Some job) × (credit ≡ job.credit)
StandsFor held keep count number (Itself job) credit (Reported report) = IsRun number job report
StandsFor held keep count number (Itself job) credit (Failed code) =
    FailsBy code ⊎ ((code ≡ 76) × MayBeForgotten keep number count)
StandsFor held keep count number (Over outcome) credit standing =
    (standing ≡ over_standing outcome) ⊎ ((standing ≡ Failed 76) × MayBeForgotten keep number count)

forgotten_more : (keep : KeepLimits) (number c d : ℕ) → c ≤ d → MayBeForgotten keep number c → MayBeForgotten keep number d
forgotten_more keep number c d le (inl jobs) = let some = jobs.0 in let ahead = jobs.1 in inl (some, omega (arith, le, ahead))
forgotten_more keep number c d le (inr bytes) = inr bytes

-- Each entry of a desk stands for the job that is known at its place.
pub record AllStand (keep : KeepLimits) (jobs : List KnownJob) (entries : List JobEntry) (held : ℕ → Option AdmittedJob) : Type 0 where
  pub count : length entries ≡ length jobs
  pub each : (i : ℕ) (entry : JobEntry) (job : KnownJob) → slice_get entries i ≡ Some entry → slice_get jobs i ≡ Some job
      → StandsFor (held (i + 1)) keep (length jobs) (i + 1) job entry.credit entry.standing

-- ---- more is known, or more jobs were taken since

pub stands_more : (a b : Option AdmittedJob) (keep : KeepLimits) (c d number : ℕ) (job : KnownJob) (credit : ℕ) (standing : JobStanding) → (standing ≡ Open → b ≡ a) → c ≤ d
    → StandsFor a keep c number job credit standing → StandsFor b keep d number job credit standing
stands_more a b keep c d number (Itself job) credit Open same le was = (same refl ∙ was.0, was.1)
stands_more a b keep c d number (Itself job) credit (Reported report) same le was = was
stands_more a b keep c d number (Itself job) credit (Failed code) same le (inl fails) = inl fails
stands_more a b keep c d number (Itself job) credit (Failed code) same le (inr gone) = inr (gone.0, forgotten_more keep number c d le gone.1)
stands_more a b keep c d number (Over outcome) credit standing same le (inl is) = inl is
stands_more a b keep c d number (Over outcome) credit standing same le (inr gone) = inr (gone.0, forgotten_more keep number c d le gone.1)

pub all_stand : (keep : KeepLimits) (jobs : List KnownJob) (entries : List JobEntry) (a b : ℕ → Option AdmittedJob) → ((n : ℕ) → b n ≡ a n) → AllStand keep jobs entries a → AllStand keep jobs entries b
all_stand keep jobs entries a b same was = record {
  count = was.count;
  each = λ i entry job at there. stands_more (a (i + 1)) (b (i + 1)) keep (length jobs) (length jobs) (i + 1) job entry.credit entry.standing (λ opened. same (i + 1)) (omega arith) (was.each i entry job at there);
}

-- ---- a job is taken, and held

pub stand_taken : (keep : KeepLimits) (jobs : List KnownJob) (entries : List JobEntry) (a b : ℕ → Option AdmittedJob) (job : KnownJob) (entry : JobEntry)
    → AllStand keep jobs entries a → StandsFor (b (length jobs + 1)) keep (length jobs + 1) (length jobs + 1) job entry.credit entry.standing → ((n : ℕ) → n ≢ length jobs + 1 → b n ≡ a n)
    → AllStand keep (jobs ++ job ∷ []) (entries ++ entry ∷ []) b
stand_taken keep jobs entries a b job entry was fresh others = record {
  count = length_pushed entries entry ∙ ap (λ n. n + 1) was.count ∙ sym (length_pushed jobs job);
  each = λ i x j at there. one i x j (get_pushed entries entry i x at) (get_pushed jobs job i j there);
}
  where
    one : (i : ℕ) (x : JobEntry) (j : KnownJob) → (slice_get entries i ≡ Some x) ⊎ ((i ≡ length entries) × (entry ≡ x)) → (slice_get jobs i ≡ Some j) ⊎ ((i ≡ length jobs) × (job ≡ j))
        → StandsFor (b (i + 1)) keep (length (jobs ++ job ∷ [])) (i + 1) j x.credit x.standing
    one i x j (inl at) (inl there) =
        let lt = within_get jobs i j there in
        let more = length_pushed jobs job in
        stands_more (a (i + 1)) (b (i + 1)) keep (length jobs) (length (jobs ++ job ∷ [])) (i + 1) j x.credit x.standing
        (λ opened. others (i + 1) (λ same. absurd (omega (arith, lt, same)))) (omega (arith, more)) (was.each i x j at there)
    one i x j (inl at) (inr new) = let lt = within_get entries i x at in let is = new.0 in let count = was.count in absurd (omega (arith, lt, is, count))
    one i x j (inr new) (inl there) = let lt = within_get jobs i j there in let is = new.0 in let count = was.count in absurd (omega (arith, lt, is, count))
    one i x j (inr new) (inr also) =
        let P : ℕ × KnownJob × JobEntry → Type 0 = λ t. StandsFor (b (t.0 + 1)) keep (length (jobs ++ job ∷ [])) (t.0 + 1) t.1 t.2.credit t.2.standing in
        subst P (λ k. (sym also.0 k, also.1 k, new.1 k))
        (subst (λ (count : ℕ). StandsFor (b (length jobs + 1)) keep count (length jobs + 1) job entry.credit entry.standing) (sym (length_pushed jobs job)) fresh)

-- ---- a job is over

pub job_is : (entries : List JobEntry) (number : ℕ) → 1 ≤ number → job_at entries number ≡ slice_get entries (number - 1)
job_is entries number some =
    let apart : nat_eq number 0 ≡ false = grind (arith, nat_tests) in
    ap (λ (b : Bool). if◌then◌else◌ {A = Option JobEntry} b None (slice_get entries (number - 1))) apart

pub job_there : (entries : List JobEntry) (number : ℕ) (entry : JobEntry) → job_at entries number ≡ Some entry → (1 ≤ number) × (slice_get entries (number - 1) ≡ Some entry)
job_there entries zero entry at = cc
job_there entries (suc n) entry at = (omega arith, sym (job_is entries (suc n) (omega arith)) ∙ at)

-- the job came to a report of its run, or failed, already at its start maybe
abbrev pub Ended : ℕ → AdmittedJob → Result Report ℕ → Type 0
Ended number job (Ok report) = IsRun number job report
Ended number job (Err code) = FailsBy code

pub ended_by : (number : ℕ) (job : AdmittedJob) (outcome : Result Report ℕ) → IsEndOf number job outcome → Ended number job outcome
ended_by number job (Ok report) ends = ends
ended_by number job (Err code) ends = inr ends

-- what is over isn't open
pub over_open : (outcome : Result Report ℕ) → Open ≡ over_standing outcome → ⊥
over_open (Ok report) is = cc
over_open (Err code) is = cc

-- its standing then
stands_settled : (held : Option AdmittedJob) (keep : KeepLimits) (count number : ℕ) (job : AdmittedJob) (credit : ℕ) (outcome : Result Report ℕ) → credit ≡ job.credit → Ended number job outcome
    → StandsFor held keep count number (Itself job) credit (settled credit outcome)
stands_settled held keep count number job credit (Ok report) same ends =
    let whole = ends.final.whole in
    let adds : nat_eq (report.spent + report.returned) credit ≡ true = grind (arith, nat_tests, whole, same) in
    subst (λ (b : Bool). StandsFor held keep count number (Itself job) credit (if◌then◌else◌ {A = JobStanding} b (Reported report) (Failed 82))) (sym adds) ends
stands_settled held keep count number job credit (Err code) same ends = inl ends

stand_changed : (keep : KeepLimits) (jobs : List KnownJob) (entries : List JobEntry) (a b : ℕ → Option AdmittedJob) (number : ℕ) (changed : JobEntry) → 1 ≤ number → AllStand keep jobs entries a
    → ((n : ℕ) → n ≢ number → b n ≡ a n) → ((job : KnownJob) → slice_get jobs (number - 1) ≡ Some job → StandsFor (b number) keep (length jobs) number job changed.credit changed.standing)
    → AllStand keep jobs (slice_set entries (number - 1) changed) b
stand_changed keep jobs entries a b number changed some was others here = record {
  count = length_set entries (number - 1) changed ∙ was.count;
  each = λ i x j at there. one i x j (get_set entries (number - 1) changed i x at) there;
}
  where
    one : (i : ℕ) (x : JobEntry) (j : KnownJob) → ((i ≡ number - 1) × (changed ≡ x)) ⊎ ((i ≢ number - 1) × (slice_get entries i ≡ Some x)) → slice_get jobs i ≡ Some j → StandsFor (b (i + 1)) keep (length jobs) (i + 1) j x.credit x.standing
    one i x j (inl t) there =
        let is = t.0 in
        let number_is : number ≡ i + 1 = omega (arith, is, some) in
        let P : ℕ × JobEntry → Type 0 = λ p. StandsFor (b p.0) keep (length jobs) p.0 j p.1.credit p.1.standing in
        subst P (λ k. (number_is k, t.1 k)) (here j (ap (slice_get jobs) (sym is) ∙ there))
    one i x j (inr t) there =
        let apart = t.0 in
        stands_more (a (i + 1)) (b (i + 1)) keep (length jobs) (length jobs) (i + 1) j x.credit x.standing (λ opened. others (i + 1) (λ same. apart (omega (arith, same)))) (omega arith) (was.each i x j t.1 there)

-- an open job ends as a job that was taken under its number ends
pub stand_finished : (keep : KeepLimits) (jobs : List KnownJob) (old : Ledger) (a b : ℕ → Option AdmittedJob) (number : ℕ) (outcome : Result Report ℕ) (new : Ledger) → AllStand keep jobs old.jobs a
    → ((n : ℕ) → n ≢ number → b n ≡ a n) → ((job : AdmittedJob) → a number ≡ Some job → Ended number job outcome) → Finishes old number outcome new → AllStand keep jobs new.jobs b
stand_finished keep jobs old a b number outcome new was others ends f =
    let there = job_there old.jobs number f.entry f.was in
    subst (λ es. AllStand keep jobs es b) (sym f.jobs.jobs)
    (stand_changed keep jobs old.jobs a b number (record f.entry { standing = settled f.entry.credit outcome }) there.0 was others
    (λ job at. ended job (by_open job (was.each (number - 1) f.entry job there.1 at))))
  where
    by_open : (job : KnownJob) → StandsFor (a (number - 1 + 1)) keep (length jobs) (number - 1 + 1) job f.entry.credit f.entry.standing → StandsFor (a number) keep (length jobs) number job f.entry.credit Open
    by_open job stands =
        let some = (job_there old.jobs number f.entry f.was).0 in
        let is : number - 1 + 1 ≡ number = omega (arith, some) in
        let P : ℕ × JobStanding → Type 0 = λ p. StandsFor (a p.0) keep (length jobs) p.0 job f.entry.credit p.1 in
        subst P (λ k. (is k, f.opened k)) stands

    ended : (job : KnownJob) → StandsFor (a number) keep (length jobs) number job f.entry.credit Open → StandsFor (b number) keep (length jobs) number job f.entry.credit (settled f.entry.credit outcome)
    ended (Itself job) t = stands_settled (b number) keep (length jobs) number job f.entry.credit outcome t.1 (ends job t.0)
    ended (Over result) (inl is) = absurd (over_open result is)
    ended (Over result) (inr gone) = let clash : Open ≡ Failed 76 = gone.0 in absurd cc

-- a job that isn't open is noted in vain
pub stand_noted : (keep : KeepLimits) (jobs : List KnownJob) (old : Ledger) (a b : ℕ → Option AdmittedJob) (number : ℕ) (outcome : Result Report ℕ) (new : Ledger) → AllStand keep jobs old.jobs a
    → ((n : ℕ) → n ≢ number → b n ≡ a n) → ((job : AdmittedJob) → a number ≡ Some job → Ended number job outcome) → Notes old number outcome new → AllStand keep jobs new.jobs b
stand_noted keep jobs old a b number outcome new was others ends (inl f) =
    stand_finished keep jobs old a b number outcome new was others ends f
stand_noted keep jobs old a b number outcome new was others ends (inr t) =
    subst (λ (l : Ledger). AllStand keep jobs l.jobs b) (sym t.1) (record {
      count = was.count;
      each = λ i x j at there. stands_more (a (i + 1)) (b (i + 1)) keep (length jobs) (length jobs) (i + 1) j x.credit x.standing
          (λ opened. others (i + 1) (λ same. absurd (t.0 x (found i x same at) opened))) (omega arith) (was.each i x j at there);
    })
  where
    found : (i : ℕ) (x : JobEntry) → i + 1 ≡ number → slice_get old.jobs i ≡ Some x → job_at old.jobs number ≡ Some x
    found i x same at =
        let some : 1 ≤ number = omega (arith, same) in
        let place : number - 1 ≡ i = omega (arith, same) in
        job_is old.jobs number some ∙ ap (slice_get old.jobs) place ∙ at

-- ---- jobs are forgotten

stand_forgotten : (keep : KeepLimits) (jobs : List KnownJob) (old : List JobEntry) (ahead : ℕ) (new : List JobEntry) (held : ℕ → Option AdmittedJob)
    → AllStand keep jobs old held → ForgetsJobs old ahead new → IsKeptWithin keep old ahead new → AllStand keep jobs new held
stand_forgotten keep jobs old ahead new held was f within = record {
  count = f.count ∙ was.count;
  each = λ i x j at there. one i x j at there (cases_lt i ahead);
}
  where
    why : (i : ℕ) → i < ahead → (ahead ≡ 0) ⊎ IsNeeded keep old ahead new → MayBeForgotten keep (i + 1) (length jobs)
    why i less (inl none) = absurd (omega (arith, less, none))
    why i less (inr need) = by_why need.why
      where
        by_why : Exceeds keep ahead (length old) (bytes_held new + bytes_in need.entry.standing) → MayBeForgotten keep (i + 1) (length jobs)
        by_why (inl t) = let some = t.0 in let few = t.1 in let count = was.count in inl (some, omega (arith, less, few, count))
        by_why (inr t) = inr t.0

    gone_stands : (h : Option AdmittedJob) (count number : ℕ) (job : KnownJob) (credit : ℕ) → MayBeForgotten keep number count → StandsFor h keep count number job credit (Failed 76)
    gone_stands h count number (Itself job) credit may = inr (refl, may)
    gone_stands h count number (Over outcome) credit may = inr (refl, may)

    before : (i : ℕ) (x : JobEntry) → slice_get new i ≡ Some x → (w : JobEntry) × (slice_get old i ≡ Some w)
    before i x at = let lt = slice_get_within new i x at in let long = f.count in get_within old i (omega (arith, lt, long))

    one : (i : ℕ) (x : JobEntry) (j : KnownJob) → slice_get new i ≡ Some x → slice_get jobs i ≡ Some j → (i < ahead) ⊎ (ahead ≤ i)
        → StandsFor (held (i + 1)) keep (length jobs) (i + 1) j x.credit x.standing
    one i x j at there (inr behind) =
        let w = before i x at in
        let same : w.0 ≡ x = same_some w.0 x (sym (f.same i w.0 w.1 (inl behind)) ∙ at) in
        was.each i x j (w.1 ∙ ap Some same) there
    one i x j at there (inl less) = let w = before i x at in by w.0 w.1 (each_left old ahead new f i w.0 x w.1 at)
      where
        by : (w : JobEntry) → slice_get old i ≡ Some w → (w ≡ x) ⊎ (IsJobOver w × IsGone x) → StandsFor (held (i + 1)) keep (length jobs) (i + 1) j x.credit x.standing
        by w at_old (inl same) = was.each i x j (at_old ∙ ap Some same) there
        by w at_old (inr gone) =
            subst (StandsFor (held (i + 1)) keep (length jobs) (i + 1) j x.credit) (sym gone.1.standing) (gone_stands (held (i + 1)) (length jobs) (i + 1) j x.credit (why i less within.needed))

pub stand_kept : (keep : KeepLimits) (jobs : List KnownJob) (old new : Ledger) (held : ℕ → Option AdmittedJob) → AllStand keep jobs old.jobs held → KeepsWithin keep old new → AllStand keep jobs new.jobs held
stand_kept keep jobs old new held was keeps = stand_forgotten keep jobs old.jobs keeps.0 new.jobs held was keeps.1.forgets.jobs keeps.1.within
