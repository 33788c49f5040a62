-- Behind every history of a server of one desk, the desk's jobs stand for those that are known.
use Rattle.std.proofs.Common.{◌≡◌, ◌≢◌, ◌⊎◌, ◌+◌, ◌-◌, ◌≤◌, ℕ, zero, suc, Bool, false, nat_eq, if◌then◌else◌, List, [], ◌∷◌, ◌++◌, length, slice_get, Option, Some, None, Result, Ok, Err, refl, sym, ap, subst, ◌∙◌, inl, inr, arith}
use Rattle.std.proofs.lemmas.Bool.Decides.{nat_tests}
use Rattle.credit_book.specs.declared.book.Report.{Report}
use Rattle.credit_book.specs.declared.board.Progress.{Progress}
use Rattle.accounts.specs.declared.keep_limits.KeepLimits.{KeepLimits}
use Rattle.accounts.specs.Ledgers.{Ledger, KeepsWithin}
use Rattle.job_core.specs.Admitted.{AdmittedJob}
use Rattle.sessions.specs.declared.job_key.KeyedJob.{KeyedJob}
use Rattle.streams.specs.Answering.{Settles}
use Rattle.server_state.specs.declared.access.Access.{Access}
use Rattle.server_state.specs.declared.job_id.JobId.{JobId}
use Rattle.server_state.specs.Answering.{NotesEnd, waiting_behind}
use Rattle.server_state.specs.Desks.{DeskReplies}
use Rattle.server_state.specs.Histories.{ServerEvent, was_asked, has_ended}
use Rattle.server_state.specs.Queries.{Destination, Query, desk_at, desk_query, goes}
use Rattle.server_state.specs.Results.{AreKnown, IsHeld, IsSubmit, Itself, KnownJob, known_at, no_more, one_again, one_more}
use Rattle.server_state.specs.States.{DeskState, JobsSteps, id_at, starting_to}
use Rattle.server_state.proofs.KeyedLemmas.{Keyed, after_answer as keyed_answer, key_aside, no_more as no_more_keys}
use Rattle.server_state.proofs.KnownLemmas.{KeepsJobs, Step, TakesOne, again_of, aside_takes_none, step_of}
use Rattle.server_state.proofs.ListEnds.{get_before, get_behind, length_pushed}
use Rattle.server_state.proofs.ListLemmas.{same_or_not}
use Rattle.server_state.proofs.Moments.{IsAsideAt}
use Rattle.server_state.proofs.StandsFor.{AllStand, StandsFor, all_stand, ended_by, get_pushed, stand_finished, stand_kept, stand_noted, stand_taken}

-- ---- the job of a number

pub known_is : (known : List KnownJob) (number : ℕ) → 1 ≤ number → known_at known number ≡ slice_get known (number - 1)
known_is known number some =
    let apart : nat_eq number 0 ≡ false = grind (arith, nat_tests) in
    ap (λ (b : Bool). if◌then◌else◌ {A = Option KnownJob} b None (slice_get known (number - 1))) apart

known_more : (known : List KnownJob) (x : KnownJob) (number : ℕ) (job : KnownJob) → known_at known number ≡ Some job → known_at (known ++ x ∷ []) number ≡ Some job
known_more known x zero job at = let clash : None ≡ Some job = at in cc
known_more known x (suc n) job at =
    known_is (known ++ x ∷ []) (suc n) (omega arith) ∙ get_before known (x ∷ []) (suc n - 1) job (sym (known_is known (suc n) (omega arith)) ∙ at)

same_itself : (a b : AdmittedJob) → Some (Itself a) ≡ Some (Itself b) → a ≡ b
same_itself a b same = cc

same_job : (a b : AdmittedJob) → Some a ≡ Some b → a ≡ b
same_job a b same = cc

-- the job that waits at a place
first_is : (job other : JobId × AdmittedJob) → Some job ≡ Some other → job ≡ other
first_is job other same = cc

-- ---- the runner, by the numbers of its first desk

pub record RunsNumbers {R : Type 0} (m : JobsSteps R) (at : R → ℕ → Option AdmittedJob) (ends : ℕ → AdmittedJob → Result Report ℕ → Type 0) (refuses : ℕ → Type 0) : Type 0 where
  pub started : (r : R) (n : ℕ) (job : AdmittedJob) (done : Unit {0}) (s : R) → m.starts r (id_at 0 n) job (Ok done) s → (at s n ≡ Some job) × ((k : ℕ) → k ≢ n → at s k ≡ at r k)
  pub refused : (r : R) (n : ℕ) (job : AdmittedJob) (code : ℕ) (s : R) → m.starts r (id_at 0 n) job (Err code) s → refuses code × ((k : ℕ) → at s k ≡ at r k)
  pub looked : (r : R) (n : ℕ) (seen : Progress) (s : R) → m.looks r (id_at 0 n) seen s → (k : ℕ) → at s k ≡ at r k
  pub taken : (r : R) (n : ℕ) (outcome : Result Report ℕ) (s : R) → m.takes r (Some (id_at 0 n, outcome)) s
      → (job : AdmittedJob) × (at r n ≡ Some job) × ends n job outcome × ((k : ℕ) → k ≢ n → at s k ≡ at r k)
  pub none : (r s : R) → m.takes r None s → (k : ℕ) → at s k ≡ at r k
  pub whole : (n : ℕ) (job : AdmittedJob) (report : Report) → ends n job (Ok report) → report.spent + report.returned ≡ job.credit

-- each job that waits is the one that is known under its number
abbrev pub AreWaiting : List KnownJob → List (JobId × AdmittedJob) → Type 0
AreWaiting known waiting = (i : ℕ) (job : JobId × AdmittedJob) → slice_get waiting i ≡ Some job → (job.0.desk ≡ 0) × (known_at known job.0.number ≡ Some (Itself job.1))

-- ends of jobs are those of the first desk
abbrev pub IsAtHome : ServerEvent → Type 0
IsAtHome (was_asked connection access query frame started) = Unit {0}
IsAtHome (has_ended id outcome) = id.desk ≡ 0

abbrev pub AreAtHome : List ServerEvent → Type 0
AreAtHome [] = Unit {0}
AreAtHome (e ∷ events) = IsAtHome e × AreAtHome events

pub home_before : (events others : List ServerEvent) → AreAtHome (events ++ others) → AreAtHome events
home_before [] others all = tt
home_before (e ∷ events) others all = (all.0, home_before events others all.1)

pub home_last : (events : List ServerEvent) (e : ServerEvent) → AreAtHome (events ++ e ∷ []) → IsAtHome e
home_last [] e all = all.0
home_last (x ∷ events) e all = home_last events e all.1

module _ {R : Type 0} (m : JobsSteps R) (at : R → ℕ → Option AdmittedJob) (ends : ℕ → AdmittedJob → Result Report ℕ → Type 0) (refuses : ℕ → Type 0) (runs : RunsNumbers m at ends refuses)
    (keep : KeepLimits) (keys : List KeyedJob) (first : List KnownJob) where
  -- ---- what is held stays held

  same_held : (w : List (JobId × AdmittedJob)) (r s : R) (n : ℕ) (j : AdmittedJob) → at s n ≡ at r n → IsHeld at w r n j → IsHeld at w s n j
  same_held w r s n j same h = record { there = elim h.there [ inl waits ↦ inl waits | inr runs ↦ inr (same ∙ runs) ]; only = λ other is. h.only other (sym same ∙ is) }

  -- the jobs that are known behind a history, the desk's jobs, and those that wait
  pub record Stood (events : List ServerEvent) (d : DeskState) (w : List (JobId × AdmittedJob)) (r : R) : Type 0 where
    pub keyed : Keyed keys events d
    pub known : List KnownJob
    pub are : AreKnown keys first events known
    pub stand : AllStand ends refuses keep known d.ledger.jobs (IsHeld at w r)
    pub waits : AreWaiting known w

  moved : (known : List KnownJob) (d : DeskState) (w : List (JobId × AdmittedJob)) (r s : R) → ((n : ℕ) → at s n ≡ at r n) → AllStand ends refuses keep known d.ledger.jobs (IsHeld at w r) → AllStand ends refuses keep known d.ledger.jobs (IsHeld at w s)
  moved known d w r s same stand = all_stand ends refuses keep known d.ledger.jobs (IsHeld at w r) (IsHeld at w s) (λ i j there held. same_held w r s (i + 1) j (same (i + 1)) held) stand

  -- ---- an answer

  module _ (started : Result (Unit {0}) ℕ) (known : List KnownJob) (w : List (JobId × AdmittedJob)) where
    kept_jobs : (mid e : Ledger) (held : ℕ → AdmittedJob → Type 0) → AllStand ends refuses keep known mid.jobs held → KeepsWithin keep mid e ⊎ (e ≡ mid) → AllStand ends refuses keep known e.jobs held
    kept_jobs mid e held stand (inl keeps) = stand_kept ends refuses keep known mid e held stand keeps
    kept_jobs mid e held stand (inr same) = subst (λ (l : Ledger). AllStand ends refuses keep known l.jobs held) (sym same) stand

    none_taken : (d e : DeskState) (r s : R) → AllStand ends refuses keep known d.ledger.jobs (IsHeld at w r) → KeepsJobs (starting_to started m) keep d.ledger r e.ledger s → AllStand ends refuses keep known e.ledger.jobs (IsHeld at w s)
    none_taken d e r s stand k =
        moved known e w r s (same k.runner) (kept_jobs k.mid e.ledger (IsHeld at w r) (subst (λ es. AllStand ends refuses keep known es (IsHeld at w r)) (sym k.jobs) stand) k.keeps)
      where
        same : (s ≡ r) ⊎ ((number : ℕ) × (seen : Progress) × m.looks r (id_at 0 number) seen s) → (n : ℕ) → at s n ≡ at r n
        same (inl is) n = ap (λ (x : R). at x n) is
        same (inr t) n = runs.looked r t.0 t.1 s t.2 n

  module _ (started : Result (Unit {0}) ℕ) (known : List KnownJob) (w : List (JobId × AdmittedJob)) (d : DeskState) (r : R) (x : ServerEvent) (e : DeskState) (s : R) (stand : AllStand ends refuses keep known d.ledger.jobs (IsHeld at w r))
      (t : TakesOne (starting_to started m) keep d.ledger r x e.ledger s) where
    job : AdmittedJob
    job = t.takes.job

    mid : Ledger
    mid = t.takes.mid

    number : length mid.jobs ≡ length known + 1
    unfolding mid
    number = ap length t.takes.takes.jobs.jobs ∙ length_pushed d.ledger.jobs t.takes.takes.entry ∙ ap (λ (n : ℕ). n + 1) stand.count

    taken_with : (b : ℕ → AdmittedJob → Type 0) → b (length known + 1) job → ((n : ℕ) (j : AdmittedJob) → n ≢ length known + 1 → IsHeld at w r n j → b n j) → AllStand ends refuses keep (known ++ Itself job ∷ []) mid.jobs b
    unfolding job mid
    taken_with b here others =
        let credited = t.takes.takes.credited ∙ sym t.takes.admitted.same_credit in
        subst (λ es. AllStand ends refuses keep (known ++ Itself t.takes.job ∷ []) es b) (sym t.takes.takes.jobs.jobs)
        (stand_taken ends refuses keep known d.ledger.jobs (IsHeld at w r) b (Itself t.takes.job) t.takes.takes.entry stand
        (subst (StandsFor ends refuses keep (b (length known + 1)) (length known + 1) (length known + 1) (Itself t.takes.job) t.takes.takes.entry.credit) (sym t.takes.takes.opened) (here, credited)) others)

    -- the job, where its start is not refused yet
    as_held : ℕ → AdmittedJob → Type 0
    as_held n j = IsHeld at w r n j ⊎ ((n ≡ length known + 1) × (j ≡ job))

    by_outcome : (o : Result (Unit {0}) ℕ) → m.starts r (id_at 0 (length mid.jobs)) job o s → Settles mid (length mid.jobs) o t.mid → AllStand ends refuses keep (known ++ Itself job ∷ []) t.mid.jobs (IsHeld at w s)
    unfolding as_held
    by_outcome (Ok done) starts settles =
        let step = runs.started r (length mid.jobs) job done s starts in
        let here : at s (length known + 1) ≡ Some job = ap (at s) (sym number) ∙ step.0 in
        subst (λ (l : Ledger). AllStand ends refuses keep (known ++ Itself job ∷ []) l.jobs (IsHeld at w s)) (sym settles)
        (taken_with (IsHeld at w s) (record { there = inr here; only = λ other is. same_job other job (sym is ∙ here) })
        (λ n j apart held. same_held w r s n j (step.1 n (λ same. apart (same ∙ number))) held))
    by_outcome (Err code) starts settles =
        let step = runs.refused r (length mid.jobs) job code s starts in
        stand_finished ends refuses keep runs.whole (known ++ Itself job ∷ []) mid as_held (IsHeld at w s) (length mid.jobs) (Err code) t.mid
        (taken_with as_held (inr (refl, refl)) (λ n j apart held. inl held))
        (λ n j apart held. elim held [ inl was ↦ same_held w r s n j (step.1 n) was | inr new ↦ absurd (apart (new.0 ∙ sym number)) ])
        (λ j held. inr step.0) settles

    one_taken : AllStand ends refuses keep (known ++ Itself t.takes.job ∷ []) e.ledger.jobs (IsHeld at w s)
    unfolding job mid
    one_taken = stand_kept ends refuses keep (known ++ Itself t.takes.job ∷ []) t.mid e.ledger (IsHeld at w s) (by_outcome t.takes.outcome t.takes.starts_job.0 t.takes.settles) t.keeps

  pub stood_asked : (events : List ServerEvent) (d : DeskState) (w : List (JobId × AdmittedJob)) (connection : ℕ) (access : Access) (query : Query) (frame : List ℕ) (started : Result (Unit {0}) ℕ) (r : R) (e : DeskState) (s : R) → Stood events d w r
      → goes [] access query ≡ desk_at 0 → DeskReplies (starting_to started m) 0 keep d r (desk_query [] access query) frame e s → Stood (events ++ was_asked connection access query frame started ∷ []) e w s
  stood_asked events d w connection access query frame started r e s was to replies = by_step (step_of (starting_to started m) keep d r connection access query frame started e s to replies)
    where
      keyed_jobs : Keyed keys (events ++ was_asked connection access query frame started ∷ []) e
      keyed_jobs = keyed_answer (starting_to started m) keep keys events d connection access query frame started r e s was.keyed to replies

      by_step : Step (starting_to started m) keep d r (was_asked connection access query frame started) e s → Stood (events ++ was_asked connection access query frame started ∷ []) e w s
      by_step (inl none) = record {
        keyed = keyed_jobs;
        known = was.known;
        are = no_more events was.known (was_asked connection access query frame started) was.are none.0;
        stand = none_taken started was.known w d e r s was.stand none.1;
        waits = was.waits;
      }
      by_step (inr (inl again)) = record {
        keyed = keyed_jobs;
        known = was.known;
        are = one_again events was.known (was_asked connection access query frame started) was.are (again_of keys events d (was_asked connection access query frame started) was.keyed again.0);
        stand = none_taken started was.known w d e r s was.stand again.1;
        waits = was.waits;
      }
      by_step (inr (inr one)) = record {
        keyed = keyed_jobs;
        known = was.known ++ Itself one.takes.job ∷ [];
        are = one_more events was.known (was_asked connection access query frame started) one.takes.job was.are
            (subst (λ (n : ℕ). IsSubmit (was_asked connection access query frame started) (n + 1) one.takes.job) was.stand.count one.is_submit);
        stand = one_taken started was.known w d r (was_asked connection access query frame started) e s was.stand one;
        waits = λ i x there. ((was.waits i x there).0, known_more was.known (Itself one.takes.job) x.0.number (Itself x.1) (was.waits i x there).1);
      }

  pub stood_aside : (events : List ServerEvent) (d : DeskState) (w : List (JobId × AdmittedJob)) (r : R) (connection : ℕ) (access : Access) (query : Query) (frame : List ℕ) (started : Result (Unit {0}) ℕ) (to : Destination)
      → Stood events d w r → goes [] access query ≡ to → IsAsideAt to frame → Stood (events ++ was_asked connection access query frame started ∷ []) d w r
  stood_aside events d w r connection access query frame started to was is aside = record {
    keyed = no_more_keys keys events d d (was_asked connection access query frame started) was.keyed refl
        (key_aside connection access query frame started (λ here. subst (λ (o : Destination). IsAsideAt o frame) (sym is ∙ here) aside));
    known = was.known;
    are = no_more events was.known (was_asked connection access query frame started) was.are (aside_takes_none connection access query frame started to is aside);
    stand = was.stand;
    waits = was.waits;
  }

  -- ---- the end of a job

  pub stood_ended : (events : List ServerEvent) (d : DeskState) (w : List (JobId × AdmittedJob)) (id : JobId) (outcome : Result Report ℕ) (r : R) (e : DeskState) (s : R) → Stood events d w r
      → m.takes r (Some (id, outcome)) s → id.desk ≡ 0 → NotesEnd id.number outcome d e → Stood (events ++ has_ended id outcome ∷ []) e w s
  stood_ended events d w id outcome r e s was takes here noted =
      let step = runs.taken r id.number outcome s (subst (λ (k : ℕ). m.takes r (Some (record { desk = k; number = id.number }, outcome)) s) here takes) in
      record {
        keyed = no_more_keys keys events d e (has_ended id outcome) was.keyed noted.keys refl;
        known = was.known;
        are = no_more events was.known (has_ended id outcome) was.are (inl (λ h. h));
        stand = stand_noted ends refuses keep runs.whole was.known d.ledger (IsHeld at w r) (IsHeld at w s) id.number outcome e.ledger was.stand
            (λ n j apart held. same_held w r s n j (step.3 n apart) held)
            (λ j held. ended_by ends refuses keep id.number j outcome (subst (λ (k : AdmittedJob). ends id.number k outcome) (held.only step.0 step.1) step.2)) noted.notes;
        waits = was.waits;
      }

  pub stood_none : (events : List ServerEvent) (d : DeskState) (w : List (JobId × AdmittedJob)) (r s : R) → Stood events d w r → m.takes r None s → Stood events d w s
  stood_none events d w r s was none = record {
    keyed = was.keyed;
    known = was.known;
    are = was.are;
    stand = moved was.known d w r s (runs.none r s none) was.stand;
    waits = was.waits;
  }

  -- ---- the start of a job that waited

  module _ (known : List KnownJob) (job : JobId × AdmittedJob) (others : List (JobId × AdmittedJob)) (r s : R) (waits : AreWaiting known (job ∷ others)) where
    at_zero : (o : Result (Unit {0}) ℕ) → m.starts r job.0 job.1 o s → m.starts r (id_at 0 job.0.number) job.1 o s
    at_zero o starts = subst (λ (k : ℕ). m.starts r (record { desk = k; number = job.0.number }) job.1 o s) (waits 0 job refl).0 starts

    -- the number of the first is its own alone
    number_of : (i n : ℕ) (j : AdmittedJob) → slice_get (job ∷ others) 0 ≡ Some (id_at 0 n, j) → job.0.number ≡ n
    number_of i n j is = ap (λ (x : JobId × AdmittedJob). x.0.number) (first_is job (id_at 0 n, j) is)

    held_on : (done : Unit {0}) → m.starts r (id_at 0 job.0.number) job.1 (Ok done) s → (i : ℕ) (j : AdmittedJob) → slice_get known i ≡ Some (Itself j) → IsHeld at (job ∷ others) r (i + 1) j → IsHeld at others s (i + 1) j
    held_on done starts i j there held = by_number (same_or_not (i + 1) job.0.number)
      where
        step : (at s job.0.number ≡ Some job.1) × ((k : ℕ) → k ≢ job.0.number → at s k ≡ at r k)
        step = runs.started r job.0.number job.1 done s starts

        here : i + 1 ≡ job.0.number → at s (i + 1) ≡ Some j
        here same =
            let some : 1 ≤ job.0.number = omega (arith, same) in
            let place : job.0.number - 1 ≡ i = omega (arith, same) in
            let is = sym (waits 0 job refl).1 ∙ known_is known job.0.number some ∙ ap (slice_get known) place ∙ there in
            ap (at s) same ∙ step.0 ∙ ap (λ (k : AdmittedJob). Some k) (same_itself job.1 j is)

        others_hold : (i + 1 ≢ job.0.number) → ((k : ℕ) × (slice_get (job ∷ others) k ≡ Some (id_at 0 (i + 1), j))) ⊎ (at r (i + 1) ≡ Some j) → ((k : ℕ) × (slice_get others k ≡ Some (id_at 0 (i + 1), j))) ⊎ (at s (i + 1) ≡ Some j)
        others_hold apart (inl (zero, is)) = absurd (apart (sym (number_of 0 (i + 1) j is)))
        others_hold apart (inl (suc k, is)) = inl (k, is)
        others_hold apart (inr is) = inr (step.1 (i + 1) apart ∙ is)

        by_number : (i + 1 ≡ job.0.number) ⊎ (i + 1 ≢ job.0.number) → IsHeld at others s (i + 1) j
        by_number (inl same) = record { there = inr (here same); only = λ other is. same_job other j (sym is ∙ here same) }
        by_number (inr apart) = record { there = others_hold apart held.there; only = λ other is. held.only other (sym (step.1 (i + 1) apart) ∙ is) }

    -- a refused one waits behind the others
    held_behind : (n : ℕ) (j : AdmittedJob) → at s n ≡ at r n → IsHeld at (job ∷ others) r n j → IsHeld at (others ++ job ∷ []) s n j
    held_behind n j same held = record { there = by_place held.there; only = λ other is. held.only other (sym same ∙ is) }
      where
        by_place : ((k : ℕ) × (slice_get (job ∷ others) k ≡ Some (id_at 0 n, j))) ⊎ (at r n ≡ Some j) → ((k : ℕ) × (slice_get (others ++ job ∷ []) k ≡ Some (id_at 0 n, j))) ⊎ (at s n ≡ Some j)
        by_place (inl (zero, is)) = inl (length others, get_behind others (job ∷ []) 0 (length others) (omega arith) ∙ is)
        by_place (inl (suc k, is)) = inl (k, get_before others (job ∷ []) k (id_at 0 n, j) is)
        by_place (inr is) = inr (same ∙ is)

    waits_behind : AreWaiting known (others ++ job ∷ [])
    waits_behind i x there = by_place (get_pushed others job i x there)
      where
        by_place : (slice_get others i ≡ Some x) ⊎ ((i ≡ length others) × (job ≡ x)) → (x.0.desk ≡ 0) × (known_at known x.0.number ≡ Some (Itself x.1))
        by_place (inl was) = waits (suc i) x was
        by_place (inr new) = waits 0 x (ap (λ (y : JobId × AdmittedJob). Some y) new.1)

  pub stood_begun : (events : List ServerEvent) (d : DeskState) (job : JobId × AdmittedJob) (others : List (JobId × AdmittedJob)) (started : Result (Unit {0}) ℕ) (r s : R) → Stood events d (job ∷ others) r
      → m.starts r job.0 job.1 started s → Stood events d (waiting_behind m job started others) s
  stood_begun events d job others (Ok done) r s was starts = record {
    keyed = was.keyed;
    known = was.known;
    are = was.are;
    stand = all_stand ends refuses keep was.known d.ledger.jobs (IsHeld at (job ∷ others) r) (IsHeld at others s)
        (held_on was.known job others r s was.waits done (at_zero was.known job others r s was.waits (Ok done) starts)) was.stand;
    waits = λ i x there. was.waits (suc i) x there;
  }
  stood_begun events d job others (Err code) r s was starts =
      let step = runs.refused r job.0.number job.1 code s (at_zero was.known job others r s was.waits (Err code) starts) in
      record {
        keyed = was.keyed;
        known = was.known;
        are = was.are;
        stand = all_stand ends refuses keep was.known d.ledger.jobs (IsHeld at (job ∷ others) r) (IsHeld at (others ++ job ∷ []) s)
            (λ i j there held. held_behind was.known job others r s was.waits (i + 1) j (step.1 (i + 1)) held) was.stand;
        waits = waits_behind was.known job others r s was.waits;
      }
