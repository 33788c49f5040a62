-- The jobs of a desk stand for those that are known, which are held until they are over.
use Rattle.std.proofs.Common.{◌≡◌, ◌≢◌, ◌⊎◌, ◌+◌, ◌-◌, ◌<◌, ◌≤◌, ℕ, zero, suc, Bool, true, List, [], ◌∷◌, ◌++◌, length, slice_get, slice_set, nat_eq, if◌then◌else◌, Some, Result, Ok, Err, refl, sym, ap, subst, ◌∙◌, inl, inr, arith}
use Rattle.std.proofs.lemmas.Bool.{cases_lt}
use Rattle.std.proofs.lemmas.Bool.Decides.{nat_tests}
use Rattle.std.proofs.lemmas.List.{length-set}
use Rattle.std.proofs.lemmas.Option.{slice_get_within}
use Rattle.credit_book.specs.declared.book.Report.{Report}
use Rattle.accounts.specs.declared.keep_limits.KeepLimits.{KeepLimits}
use Rattle.accounts.specs.declared.jobs.JobEntry.{JobEntry}
use Rattle.accounts.specs.declared.jobs.JobStanding.{JobStanding}
use Rattle.accounts.specs.declared.jobs.JobStanding.TheVariants.{Open, Reported, Failed}
use Rattle.job_core.specs.Admitted.{AdmittedJob}
use Rattle.accounts.specs.Jobs.{job_at, settled}
use Rattle.accounts.specs.Ledgers.{Ledger, Finishes, KeepsWithin}
use Rattle.accounts.specs.Forgetting.{ForgetsJobs, IsGone, IsJobOver}
use Rattle.accounts.specs.Limits.{Exceeds, IsNeeded, IsKeptWithin, bytes_held, bytes_in}
use Rattle.accounts.proofs.Forgets.{each_left}
use Rattle.accounts.proofs.Listed.{get_within, same_some}
use Rattle.streams.specs.Passing.{Notes}
use Rattle.server_state.specs.Results.{KnownJob, Itself, Over, over_standing, MayBeForgotten}
use Rattle.server_state.proofs.ListEnds.{length_pushed, get_set, within_get}
use Rattle.server_state.proofs.StaysOver.{job_is, job_there}

pub get_pushed : {X : Type 0} (xs : List X) (x : X) (i : ℕ) (y : X) → slice_get (xs ++ x ∷ []) i ≡ Some y → (slice_get xs i ≡ Some y) ⊎ ((i ≡ length xs) × (x ≡ y))
get_pushed [] x zero y at = inr (refl, same_some x y at)
get_pushed [] x (suc i) y at = cc
get_pushed (z ∷ xs) x zero y at = inl at
get_pushed (z ∷ xs) x (suc i) y at = later (get_pushed xs x i y at)
  where
    later : (slice_get xs i ≡ Some y) ⊎ ((i ≡ length xs) × (x ≡ y)) → (slice_get xs i ≡ Some y) ⊎ ((suc i ≡ suc (length xs)) × (x ≡ y))
    later (inl was) = inl was
    later (inr t) = inr (ap suc t.0, t.1)

-- what is over isn't open
pub over_open : (outcome : Result Report ℕ) → Open ≡ over_standing outcome → ⊥
over_open (Ok report) is = cc
over_open (Err code) is = cc

forgotten_more : (keep : KeepLimits) (number c d : ℕ) → c ≤ d → MayBeForgotten keep number c → MayBeForgotten keep number d
forgotten_more keep number c d le (inl jobs) = let some = jobs.0 in let ahead = jobs.1 in inl (some, omega (arith, le, ahead))
forgotten_more keep number c d le (inr bytes) = inr bytes

module _ (ends : ℕ → AdmittedJob → Result Report ℕ → Type 0) (refuses : ℕ → Type 0) (keep : KeepLimits) where
  -- The standing of a job of this credit says what became of the job that is known under the number.
  abbrev pub StandsFor : (AdmittedJob → Type 0) → ℕ → ℕ → KnownJob → ℕ → JobStanding → Type 0
  StandsFor held count number (Itself job) credit Open = held job × (credit ≡ job.credit)
  StandsFor held count number (Itself job) credit (Reported report) = ends number job (Ok report)
  StandsFor held count number (Itself job) credit (Failed code) =
      (ends number job (Err code) ⊎ refuses code) ⊎ ((code ≡ 76) × MayBeForgotten keep number count)
  StandsFor held count number (Over outcome) credit standing =
      (standing ≡ over_standing outcome) ⊎ ((standing ≡ Failed 76) × MayBeForgotten keep number count)

  -- Each entry of a desk stands for the job that is known at its place.
  pub record AllStand (known : List KnownJob) (entries : List JobEntry) (held : ℕ → AdmittedJob → Type 0) : Type 0 where
    pub count : length entries ≡ length known
    pub each : (i : ℕ) (entry : JobEntry) (job : KnownJob) → slice_get entries i ≡ Some entry → slice_get known i ≡ Some job
        → StandsFor (held (i + 1)) (length known) (i + 1) job entry.credit entry.standing

  -- ---- more is known, or more jobs were taken since

  pub stands_more : (a b : AdmittedJob → Type 0) (c d number : ℕ) (job : KnownJob) (credit : ℕ) (standing : JobStanding) → ((j : AdmittedJob) → job ≡ Itself j → standing ≡ Open → a j → b j) → c ≤ d
      → StandsFor a c number job credit standing → StandsFor b d number job credit standing
  stands_more a b c d number (Itself job) credit Open same le was = (same job refl refl was.0, was.1)
  stands_more a b c d number (Itself job) credit (Reported report) same le was = was
  stands_more a b c d number (Itself job) credit (Failed code) same le (inl fails) = inl fails
  stands_more a b c d number (Itself job) credit (Failed code) same le (inr gone) = inr (gone.0, forgotten_more keep number c d le gone.1)
  stands_more a b c d number (Over outcome) credit standing same le (inl is) = inl is
  stands_more a b c d number (Over outcome) credit standing same le (inr gone) = inr (gone.0, forgotten_more keep number c d le gone.1)

  pub all_stand : (known : List KnownJob) (entries : List JobEntry) (a b : ℕ → AdmittedJob → Type 0) → ((i : ℕ) (j : AdmittedJob) → slice_get known i ≡ Some (Itself j) → a (i + 1) j → b (i + 1) j)
      → AllStand known entries a → AllStand known entries b
  all_stand known entries a b same was = record {
    count = was.count;
    each = λ i entry job at there. stands_more (a (i + 1)) (b (i + 1)) (length known) (length known) (i + 1) job entry.credit entry.standing
        (λ j is opened held. same i j (there ∙ ap Some is) held) (omega arith) (was.each i entry job at there);
  }

  -- ---- a job is taken, and held

  pub stand_taken : (known : List KnownJob) (entries : List JobEntry) (a b : ℕ → AdmittedJob → Type 0) (job : KnownJob) (entry : JobEntry)
      → AllStand known entries a → StandsFor (b (length known + 1)) (length known + 1) (length known + 1) job entry.credit entry.standing → ((n : ℕ) (j : AdmittedJob) → n ≢ length known + 1 → a n j → b n j)
      → AllStand (known ++ job ∷ []) (entries ++ entry ∷ []) b
  stand_taken known entries a b job entry was fresh others = record {
    count = length_pushed entries entry ∙ ap (λ n. n + 1) was.count ∙ sym (length_pushed known job);
    each = λ i x j at there. one i x j (get_pushed entries entry i x at) (get_pushed known job i j there);
  }
    where
      one : (i : ℕ) (x : JobEntry) (j : KnownJob) → (slice_get entries i ≡ Some x) ⊎ ((i ≡ length entries) × (entry ≡ x)) → (slice_get known i ≡ Some j) ⊎ ((i ≡ length known) × (job ≡ j))
          → StandsFor (b (i + 1)) (length (known ++ job ∷ [])) (i + 1) j x.credit x.standing
      one i x j (inl at) (inl there) =
          let lt = within_get known i j there in
          let more = length_pushed known job in
          stands_more (a (i + 1)) (b (i + 1)) (length known) (length (known ++ job ∷ [])) (i + 1) j x.credit x.standing
          (λ k is opened held. others (i + 1) k (λ same. absurd (omega (arith, lt, same))) held) (omega (arith, more)) (was.each i x j at there)
      one i x j (inl at) (inr new) = let lt = within_get entries i x at in let is = new.0 in let count = was.count in absurd (omega (arith, lt, is, count))
      one i x j (inr new) (inl there) = let lt = within_get known i j there in let is = new.0 in let count = was.count in absurd (omega (arith, lt, is, count))
      one i x j (inr new) (inr also) =
          let P : ℕ × KnownJob × JobEntry → Type 0 = λ t. StandsFor (b (t.0 + 1)) (length (known ++ job ∷ [])) (t.0 + 1) t.1 t.2.credit t.2.standing in
          subst P (λ k. (sym also.0 k, also.1 k, new.1 k))
          (subst (λ (count : ℕ). StandsFor (b (length known + 1)) count (length known + 1) job entry.credit entry.standing) (sym (length_pushed known job)) fresh)

  -- ---- a job is over

  -- the job came to its end, or its start was refused
  abbrev pub Ended : ℕ → AdmittedJob → Result Report ℕ → Type 0
  Ended number job (Ok report) = ends number job (Ok report)
  Ended number job (Err code) = ends number job (Err code) ⊎ refuses code

  pub ended_by : (number : ℕ) (job : AdmittedJob) (outcome : Result Report ℕ) → ends number job outcome → Ended number job outcome
  ended_by number job (Ok report) is = is
  ended_by number job (Err code) is = inl is

  module _ (whole : (number : ℕ) (job : AdmittedJob) (report : Report) → ends number job (Ok report) → report.spent + report.returned ≡ job.credit) where
    -- its standing then
    stands_settled : (held : AdmittedJob → Type 0) (count number : ℕ) (job : AdmittedJob) (credit : ℕ) (outcome : Result Report ℕ) → credit ≡ job.credit → Ended number job outcome
        → StandsFor held count number (Itself job) credit (settled credit outcome)
    stands_settled held count number job credit (Ok report) same is =
        let adds_up = whole number job report is in
        let adds : nat_eq (report.spent + report.returned) credit ≡ true = grind (arith, nat_tests, adds_up, same) in
        subst (λ (b : Bool). StandsFor held count number (Itself job) credit (if◌then◌else◌ {A = JobStanding} b (Reported report) (Failed 82))) (sym adds) is
    stands_settled held count number job credit (Err code) same is = inl is

    stand_changed : (known : List KnownJob) (entries : List JobEntry) (a b : ℕ → AdmittedJob → Type 0) (number : ℕ) (changed : JobEntry) → 1 ≤ number → AllStand known entries a
        → ((n : ℕ) (j : AdmittedJob) → n ≢ number → a n j → b n j) → ((job : KnownJob) → slice_get known (number - 1) ≡ Some job → StandsFor (b number) (length known) number job changed.credit changed.standing)
        → AllStand known (slice_set entries (number - 1) changed) b
    stand_changed known entries a b number changed some was others here = record {
      count = length-set entries (number - 1) changed ∙ was.count;
      each = λ i x j at there. one i x j (get_set entries (number - 1) changed i x at) there;
    }
      where
        one : (i : ℕ) (x : JobEntry) (j : KnownJob) → ((i ≡ number - 1) × (changed ≡ x)) ⊎ ((i ≢ number - 1) × (slice_get entries i ≡ Some x)) → slice_get known i ≡ Some j → StandsFor (b (i + 1)) (length known) (i + 1) j x.credit x.standing
        one i x j (inl t) there =
            let is = t.0 in
            let number_is : number ≡ i + 1 = omega (arith, is, some) in
            let P : ℕ × JobEntry → Type 0 = λ p. StandsFor (b p.0) (length known) p.0 j p.1.credit p.1.standing in
            subst P (λ k. (number_is k, t.1 k)) (here j (ap (slice_get known) (sym is) ∙ there))
        one i x j (inr t) there =
            let apart = t.0 in
            stands_more (a (i + 1)) (b (i + 1)) (length known) (length known) (i + 1) j x.credit x.standing (λ k is opened held. others (i + 1) k (λ same. apart (omega (arith, same))) held) (omega arith) (was.each i x j t.1 there)

    -- an open job ends as the job that is held under its number
    pub stand_finished : (known : List KnownJob) (old : Ledger) (a b : ℕ → AdmittedJob → Type 0) (number : ℕ) (outcome : Result Report ℕ) (new : Ledger) → AllStand known old.jobs a
        → ((n : ℕ) (j : AdmittedJob) → n ≢ number → a n j → b n j) → ((job : AdmittedJob) → a number job → Ended number job outcome) → Finishes old number outcome new → AllStand known new.jobs b
    stand_finished known old a b number outcome new was others over f =
        let there = job_there old.jobs number f.entry f.was in
        subst (λ es. AllStand known es b) (sym f.jobs.jobs)
        (stand_changed known old.jobs a b number (record f.entry { standing = settled f.entry.credit outcome }) there.0 was others
        (λ job at. ended job (by_open job (was.each (number - 1) f.entry job there.1 at))))
      where
        by_open : (job : KnownJob) → StandsFor (a (number - 1 + 1)) (length known) (number - 1 + 1) job f.entry.credit f.entry.standing → StandsFor (a number) (length known) number job f.entry.credit Open
        by_open job stands =
            let some = (job_there old.jobs number f.entry f.was).0 in
            let is : number - 1 + 1 ≡ number = omega (arith, some) in
            let P : ℕ × JobStanding → Type 0 = λ p. StandsFor (a p.0) (length known) p.0 job f.entry.credit p.1 in
            subst P (λ k. (is k, f.opened k)) stands

        ended : (job : KnownJob) → StandsFor (a number) (length known) number job f.entry.credit Open → StandsFor (b number) (length known) number job f.entry.credit (settled f.entry.credit outcome)
        ended (Itself job) t = stands_settled (b number) (length known) number job f.entry.credit outcome t.1 (over job t.0)
        ended (Over result) (inl is) = absurd (over_open result is)
        ended (Over result) (inr gone) = let clash : Open ≡ Failed 76 = gone.0 in absurd cc

    -- a job that isn't open is noted in vain
    pub stand_noted : (known : List KnownJob) (old : Ledger) (a b : ℕ → AdmittedJob → Type 0) (number : ℕ) (outcome : Result Report ℕ) (new : Ledger) → AllStand known old.jobs a
        → ((n : ℕ) (j : AdmittedJob) → n ≢ number → a n j → b n j) → ((job : AdmittedJob) → a number job → Ended number job outcome) → Notes old number outcome new → AllStand known new.jobs b
    stand_noted known old a b number outcome new was others over (inl f) = stand_finished known old a b number outcome new was others over f
    stand_noted known old a b number outcome new was others over (inr t) =
        subst (λ (l : Ledger). AllStand known l.jobs b) (sym t.1) (record {
          count = was.count;
          each = λ i x j at there. stands_more (a (i + 1)) (b (i + 1)) (length known) (length known) (i + 1) j x.credit x.standing
              (λ k is opened held. others (i + 1) k (λ same. absurd (t.0 x (found i x same at) opened)) held) (omega arith) (was.each i x j at there);
        })
      where
        found : (i : ℕ) (x : JobEntry) → i + 1 ≡ number → slice_get old.jobs i ≡ Some x → job_at old.jobs number ≡ Some x
        found i x same at =
            let some : 1 ≤ number = omega (arith, same) in
            let place : number - 1 ≡ i = omega (arith, same) in
            job_is old.jobs number some ∙ ap (slice_get old.jobs) place ∙ at

  -- ---- jobs are forgotten

  stand_forgotten : (known : List KnownJob) (old : List JobEntry) (ahead : ℕ) (new : List JobEntry) (held : ℕ → AdmittedJob → Type 0)
      → AllStand known old held → ForgetsJobs old ahead new → IsKeptWithin keep old ahead new → AllStand known new held
  stand_forgotten known old ahead new held was f kept = record {
    count = f.count ∙ was.count;
    each = λ i x j at there. one i x j at there (cases_lt i ahead);
  }
    where
      why : (i : ℕ) → i < ahead → (ahead ≡ 0) ⊎ IsNeeded keep old ahead new → MayBeForgotten keep (i + 1) (length known)
      why i less (inl none) = absurd (omega (arith, less, none))
      why i less (inr need) = by_why need.why
        where
          by_why : Exceeds keep ahead (length old) (bytes_held new + bytes_in need.entry.standing) → MayBeForgotten keep (i + 1) (length known)
          by_why (inl t) = let some = t.0 in let few = t.1 in let count = was.count in inl (some, omega (arith, less, few, count))
          by_why (inr t) = inr t.0

      gone_stands : (h : AdmittedJob → Type 0) (count number : ℕ) (job : KnownJob) (credit : ℕ) → MayBeForgotten keep number count → StandsFor h count number job credit (Failed 76)
      gone_stands h count number (Itself job) credit may = inr (refl, may)
      gone_stands h count number (Over outcome) credit may = inr (refl, may)

      before : (i : ℕ) (x : JobEntry) → slice_get new i ≡ Some x → (w : JobEntry) × (slice_get old i ≡ Some w)
      before i x at = let lt = slice_get_within new i x at in let long = f.count in get_within old i (omega (arith, lt, long))

      one : (i : ℕ) (x : JobEntry) (j : KnownJob) → slice_get new i ≡ Some x → slice_get known i ≡ Some j → (i < ahead) ⊎ (ahead ≤ i)
          → StandsFor (held (i + 1)) (length known) (i + 1) j x.credit x.standing
      one i x j at there (inr behind) =
          let w = before i x at in
          let same : w.0 ≡ x = same_some w.0 x (sym (f.same i w.0 w.1 (inl behind)) ∙ at) in
          was.each i x j (w.1 ∙ ap Some same) there
      one i x j at there (inl less) = let w = before i x at in by w.0 w.1 (each_left old ahead new f i w.0 x w.1 at)
        where
          by : (w : JobEntry) → slice_get old i ≡ Some w → (w ≡ x) ⊎ (IsJobOver w × IsGone x) → StandsFor (held (i + 1)) (length known) (i + 1) j x.credit x.standing
          by w at_old (inl same) = was.each i x j (at_old ∙ ap Some same) there
          by w at_old (inr gone) =
              subst (StandsFor (held (i + 1)) (length known) (i + 1) j x.credit) (sym gone.1.standing) (gone_stands (held (i + 1)) (length known) (i + 1) j x.credit (why i less kept.needed))

  pub stand_kept : (known : List KnownJob) (old new : Ledger) (held : ℕ → AdmittedJob → Type 0) → AllStand known old.jobs held → KeepsWithin keep old new → AllStand known new.jobs held
  stand_kept known old new held was keeps = stand_forgotten known old.jobs keeps.0 new.jobs held was keeps.1.forgets.jobs keeps.1.within
