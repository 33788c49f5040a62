-- A tenant's result comes from its journal, or from a submit of its own, at a server that goes on from recovered desks.
use Rattle.std.proofs.Common.{◌≡◌, ◌≤◌, ◌<◌, ◌-◌, ℕ, zero, suc, Bool, List, [], ◌∷◌, ◌++◌, length, map, slice_get, Option, Some, None, Result, Ok, refl, sym, ap, subst, ◌∙◌, arith}
use Rattle.std.proofs.lemmas.List.{length-map}
use Rattle.std.proofs.lemmas.Option.{slice_get_within}
use Rattle.job_core.specs.Admitted.{AdmittedJob}
use Rattle.accounts.specs.Ledgers.{Ledger, granted_to}
use Rattle.accounts.proofs.Listed.{get_within}
use Rattle.recovery.specs.Histories.{IsAfter}
use Rattle.desk_journal.specs.DeskSteps.{DeskState, IsNewDesk, MakesBytes}
use Rattle.desk_journal.specs.OpenJobs.{open_job_at}
use Rattle.keyed_desk.specs.KeyedSteps.{KeyedState}
use Rattle.desk_journal.specs.declared.journaled_desk.OpenJob.{OpenJob}
use Rattle.desk_journal.proofs.OpenLemmas.{AreHeldOpen, held_open, length_set}
use Rattle.sessions.specs.Grammar.{result}
use Rattle.shared_desk.specs.Histories.{HistoryEntry, Query, Replays, by_any_passage}
use Rattle.shared_desk.specs.ServerAsked.{AreAskedOfDesks}
use Rattle.shared_desk.proofs.AskedOfDesks.{asked_of_desks}
use Rattle.tenant_desks.specs.Alone.{sent_to}
use Rattle.tenant_desks.specs.Answering.{KeptRunner, named_answers}
use Rattle.tenant_desks.specs.AskedPlainly.{AreAskedPlainly}
use Rattle.tenant_desks.specs.AtDoors.{without_keys}
use Rattle.tenant_desks.specs.OwnNamed.{AreAskedByName}
use Rattle.tenant_desks.specs.Placing.{placed}
use Rattle.tenant_desks.specs.Seen.{answers_seen, looks_seen, starts_seen, takes_seen}
use Rattle.tenant_desks.specs.Tenancies.{Tenancy}
use Rattle.tenant_desks.proofs.DoorLemmas.{asked_plainly}
use Rattle.tenant_desks.proofs.SeenLemmas.{begins_more, plain_part_from}
use Rattle.tenant_recorder.specs.TenantCredits.{IsCredited, IsCreditedAt, IsFirstGrant}
use Rattle.tenant_recorder.specs.TenantsRecorded.{keeps_recorded_key, named_answers_recorded, unrecorded}
use Rattle.tenant_recorder.proofs.Recovered.{same_answers}
use Rattle.tenant_recorder.proofs.RecordedNames.{own_names_recorded}
use Rattle.tenant_recorder.specs.TenantRestarts.{RestartsEach, none_yet as none_restarted, one_more as one_restarted}
use Rattle.job_server.specs.AfterRestart.{AreRecovered, ComesFromJournal, IsToldKnown, Itself, KnownJob}
use Rattle.job_server.specs.EndToEnd.{IsResultFrame, StaysTold}
use Rattle.job_server.specs.Kept.{answers_keeping}
use Rattle.job_server.specs.TenantRecorded.{IsServingTenantsRecorded, desks_of, hosted_answers_recorded, hosted_tenants_recorded, open_jobs_of}
use Rattle.job_server.specs.TenantServing.{door_credits, door_names}
use Rattle.job_server.specs.TenantsAfterRestart.{IsRecoveredTenantHistory}
use Rattle.job_server.specs.declared.bounds.Bounds.{Bounds}
use Rattle.job_server.specs.declared.fault.ServeFault.{ServeFault}
use Rattle.job_server.specs.declared.keeping_handler.KeepingHandler.{KeepingHandler}
use Rattle.job_server.specs.declared.tenant_door.TenantDoor.{TenantDoor}
use Rattle.job_server.proofs.FromJournal.{by_result, first_known, known_open}
use Rattle.job_server.proofs.HistoryStands.{history_tells, known_is}
use Rattle.job_server.proofs.HostAnswers.{IsHost, keeping_host}
use Rattle.job_server.proofs.OwnSubmits.{Begins, Runner, as_kept, held_by, holds_by, looks_by, starts_by, takes_by}
use Rattle.job_server.proofs.Restarted.{recovered_jobs}
use Rattle.job_server.proofs.SeenHolds.{held_seen, seen_holds}
use Rattle.job_server.proofs.StandsFor.{AllStand}
use Rattle.job_server.proofs.StaysOver.{results_stay}
use Rattle.job_server.proofs.TenantsRestarted.{had_turn}

map_at : {X Y : Type 0} (f : X → Y) (xs : List X) (i : ℕ) (x : X) → slice_get xs i ≡ Some x → slice_get (map f xs) i ≡ Some (f x)
map_at f [] i x at = absurd (let clash : None ≡ Some x = at in cc)
map_at f (y ∷ xs) zero x at = let same : y ≡ x = cc in ap (λ z. Some (f z)) same
map_at f (y ∷ xs) (suc i) x at = map_at f xs i x at

-- first credit changes no job
first_grant_jobs : (name : List ℕ) (credit granted : Option ℕ) (old new : Ledger) → IsFirstGrant name credit granted old new → new.jobs ≡ old.jobs
first_grant_jobs name None granted old new is = ap (λ (l : Ledger). l.jobs) is
first_grant_jobs name (Some credit) None old new more = more.jobs
first_grant_jobs name (Some credit) (Some granted) old new is = ap (λ (l : Ledger). l.jobs) is

credited_jobs : (tenant : Option (List ℕ × Option ℕ)) (old new : Ledger) → IsCredited tenant old new → new.jobs ≡ old.jobs
credited_jobs None old new is = ap (λ (l : Ledger). l.jobs) is
credited_jobs (Some tenant) old new is = first_grant_jobs tenant.0 tenant.1 (granted_to old tenant.0) old new is

credited_jobs_at : (tenants : List (List ℕ × Option ℕ)) (place : ℕ) (old new : Ledger) → IsCreditedAt tenants place old new → new.jobs ≡ old.jobs
credited_jobs_at tenants zero old new is = ap (λ (l : Ledger). l.jobs) is
credited_jobs_at tenants (suc n) old new is = credited_jobs (slice_get tenants n) old new is

-- starts change no number of desks
restarts_count : {R : Type 0} (starts : R → ℕ → AdmittedJob → Result (Unit {0}) ℕ → R → Type 0) (desks : List Ledger) (runner : R) (helds : List (List OpenJob)) (ds : List Ledger) (r : R) → RestartsEach starts desks runner helds ds r → length ds ≡ length desks
restarts_count starts desks runner _ _ _ none_restarted = refl
restarts_count starts desks runner _ es s (one_restarted before ds r jobs d t restarts change) =
    ap length change.is ∙ length_set ds (length before) change.after ∙ restarts_count starts desks runner before ds r restarts

module _ (states : List DeskState) (doors : List TenantDoor) (bounds : Bounds) (history : List HistoryEntry) (h : IsRecoveredTenantHistory states doors bounds history) (few : length states ≤ 257)
    (place : ℕ) (state : DeskState) (at : slice_get states place ≡ Some state) (changes : List (List ℕ)) (led : IsAfter IsNewDesk MakesBytes changes state) where
  sound : AreHeldOpen changes state
  sound = held_open changes state led

  known : (jobs : List KnownJob) × AreRecovered state jobs
  known = recovered_jobs changes state sound

  small : place < 1000
  small = let lt = slice_get_within states place state at in omega (arith, lt, few)

  -- ---- the desk that the tenant begins with

  recovered_at : slice_get (map (λ (s : DeskState). s.desk) states) place ≡ Some state.desk
  recovered_at = map_at (λ (s : DeskState). s.desk) states place state at

  as_many : length h.granted ≡ length states
  as_many = h.credited.count ∙ length-map states (λ (s : DeskState). s.desk)

  granted_at : (first : Ledger) × (slice_get h.granted place ≡ Some first)
  granted_at = let lt = slice_get_within states place state at in get_within h.granted place (omega (arith, lt, as_many))

  jobs_are : granted_at.0.jobs ≡ state.desk.jobs
  jobs_are = credited_jobs_at (door_credits doors) place state.desk granted_at.0 (h.credited.each place state.desk granted_at.0 recovered_at granted_at.1)

  own_turn : (d : Ledger) × (slice_get h.begun.0.desks place ≡ Some d) × AllStand bounds.keep known.0 d.jobs (λ m. held_by h.begun.1.runner (placed m place))
  own_turn =
      let helds = length-map states (λ (s : DeskState). s.held) in
      let turn = had_turn starts_by looks_by takes_by held_by holds_by place small changes state sound bounds.keep known.0 known.1 granted_at.0 jobs_are h.granted _ granted_at.1 (open_jobs_of states) h.begun.0.desks h.begun.1.runner h.started
      (omega (arith, helds, few)) in
      turn.behind (map_at (λ (s : DeskState). s.held) states place state at)

  abbrev begun : Ledger
  begun = own_turn.0

  -- ---- its part of the history

  abbrev Start : Ledger × Runner → Type 0
  Start s = (s.0 ≡ begun) × (s.1 ≡ h.begun.1.runner)

  part : (s : Ledger × Runner) × Replays (answers_seen starts_by looks_by takes_by place bounds.keep) Start (sent_to (door_names doors) place history) s
  part =
      let count = restarts_count starts_by h.granted _ (open_jobs_of states) h.begun.0.desks h.begun.1.runner h.started in
      plain_part_from starts_by looks_by takes_by place h.begun.0.desks begun (λ r. r ≡ h.begun.1.runner) (door_names doors) bounds.keep history h.end (omega (arith, count, as_many, few)) own_turn.1
      (begins_more (named_answers starts_by looks_by takes_by) begins_so history h.end h.legal)
    where
      begins_so : (x : Tenancy × KeptRunner Runner) → x ≡ h.begun → ((x.0 ≡ record { names = door_names doors; desks = h.begun.0.desks }) × (x.1.keep ≡ bounds.keep)) × (x.1.runner ≡ h.begun.1.runner)
      begins_so x is = (
        (
          ap (λ (y : Tenancy × KeptRunner Runner). y.0) is ∙ (λ i. record { names = h.names i; desks = h.begun.0.desks }),
          ap (λ (y : Tenancy × KeptRunner Runner). y.1.keep) is ∙ h.kept,
        ),
        ap (λ (y : Tenancy × KeptRunner Runner). y.1.runner) is,
      )

  begins : (x : Ledger × KeepingHandler Runner) → Begins Start bounds.keep x → (x.1.keep ≡ bounds.keep) × AllStand bounds.keep known.0 x.0.jobs (held_seen starts_by looks_by takes_by held_by holds_by place small x.1.runner)
  begins x b = (
    b.1,
    subst (λ (y : Ledger × Runner). AllStand bounds.keep known.0 y.0.jobs (λ m. held_by y.1 (placed m place))) (λ i. (sym b.0.0 i, sym b.0.1 i)) own_turn.2,
  )

  abbrev own_answers : Ledger × KeepingHandler Runner → Query → List ℕ → Ledger × KeepingHandler Runner → Type 0
  own_answers = by_any_passage (answers_keeping (starts_seen starts_by looks_by takes_by place) (looks_seen starts_by looks_by takes_by place) (takes_seen starts_by looks_by takes_by place))

  own_host : IsHost (starts_seen starts_by looks_by takes_by place) (looks_seen starts_by looks_by takes_by place) (takes_seen starts_by looks_by takes_by place) own_answers (λ s. s.0) (λ s. s.1.runner) (λ s. s.1.keep)
  own_host = keeping_host (starts_seen starts_by looks_by takes_by place) (looks_seen starts_by looks_by takes_by place) (takes_seen starts_by looks_by takes_by place)

  end : Ledger × KeepingHandler Runner
  end = (part.0.0, record { runner = part.0.1; keep = bounds.keep })

  legal : (entries : List HistoryEntry) → sent_to (door_names doors) place history ≡ entries → Replays own_answers (Begins Start bounds.keep) entries end
  unfolding end
  legal entries is =
      subst (λ l. Replays own_answers (Begins Start bounds.keep) l end) is (as_kept starts_by looks_by takes_by place Start bounds.keep (sent_to (door_names doors) place history) part.0 part.1)

  -- ---- its results

  pub tells_there : (before after : List HistoryEntry) (e : HistoryEntry) (number : ℕ) → sent_to (door_names doors) place history ≡ before ++ e ∷ after → e.query.asked ≡ Ok (result number)
      → (jobs : List KnownJob) × AreRecovered state jobs × IsToldKnown bounds.keep jobs before number e
  tells_there before after e number is asks = (
    known.0,
    known.1,
    history_tells (starts_seen starts_by looks_by takes_by place) (looks_seen starts_by looks_by takes_by place) (takes_seen starts_by looks_by takes_by place)
        (held_seen starts_by looks_by takes_by held_by holds_by place small)
        (seen_holds starts_by looks_by takes_by held_by holds_by place small) own_answers (λ s. s.0) (λ s. s.1.runner) (λ s. s.1.keep) own_host (Begins Start bounds.keep) bounds.keep known.0 begins before after e number end
        (legal (before ++ e ∷ after) is) asks,
  )

  pub open_comes_there : (before after : List HistoryEntry) (e : HistoryEntry) (number : ℕ) (job : AdmittedJob) → sent_to (door_names doors) place history ≡ before ++ e ∷ after → e.query.asked ≡ Ok (result number)
      → open_job_at number state.held ≡ Some job → IsResultFrame e.reply → ComesFromJournal changes number e
  open_comes_there before after e number job is asks held f =
      let told = tells_there before after e number is asks in
      let opened = sound.opened number job held in
      let there = first_known told.0 before told.2.known told.2.taken (number - 1) (Itself job) (known_open state changes told.0 sound told.1 number job held) in
      by_result bounds.keep changes told.2.known number job e opened.from (known_is told.2.known number opened.counted ∙ there) f told.2.told told.2.is_result told.2.tells

  pub stays_there : (before between after : List HistoryEntry) (e f : HistoryEntry) (number : ℕ) → sent_to (door_names doors) place history ≡ before ++ e ∷ (between ++ f ∷ after)
      → e.query.asked ≡ Ok (result number) → f.query.asked ≡ Ok (result number) → StaysTold e f
  stays_there before between after e f number is asks_e asks_f =
      results_stay (starts_seen starts_by looks_by takes_by place) (looks_seen starts_by looks_by takes_by place) (takes_seen starts_by looks_by takes_by place) own_answers (λ s. s.0) (λ s. s.1.runner) (λ s. s.1.keep) own_host (Begins Start bounds.keep) before between after e f number end
      (legal (before ++ e ∷ (between ++ f ∷ after)) is) asks_e asks_f

-- ---- a server

module _ {Q J : Type 0} (taken : Q → List ℕ) (failed : Q → Type 0) (journal_of : Q → J) (journals : List J) (states : List KeyedState) (doors : List TenantDoor) (bounds : Bounds) (sessions : ℕ) (may_stop : Bool) (outcome : Result (Unit {0}) ServeFault)
    (s : IsServingTenantsRecorded taken failed journal_of journals states doors bounds sessions may_stop outcome) where
  abbrev past_counts : (heard : List HistoryEntry) × AreAskedOfDesks s.serving.history heard × Replays (hosted_answers_recorded taken failed) (λ y. y ≡ s.begun) heard s.end
  past_counts = asked_of_desks (hosted_answers_recorded taken failed) (λ y. y ≡ s.begun) s.serving.history s.end s.serving.legal

  abbrev asked_of_doors : (plain : List HistoryEntry) × AreAskedPlainly (hosted_tenants_recorded taken failed) (λ y. y ≡ s.begun) past_counts.0 plain s.end × Replays (hosted_tenants_recorded taken failed) (λ y. y ≡ without_keys s.begun) plain (without_keys s.end)
  asked_of_doors = asked_plainly (hosted_tenants_recorded taken failed) (keeps_recorded_key taken failed) (λ y. y ≡ s.begun) (λ y. y ≡ without_keys s.begun) (λ y is. ap without_keys is) past_counts.0 s.end past_counts.2

  abbrev asked_by_name : (asked : List HistoryEntry) × AreAskedByName s.begun.0.names asked_of_doors.0 asked × Replays (named_answers_recorded starts_by looks_by takes_by taken failed) (λ y. y ≡ without_keys s.begun) asked (without_keys s.end)
  asked_by_name = own_names_recorded starts_by looks_by takes_by taken failed asked_of_doors.0 (without_keys s.begun) (without_keys s.end) s.restarted.in_step asked_of_doors.2

  recovered : IsRecoveredTenantHistory (desks_of states) doors bounds asked_by_name.0
  recovered = record {
    first = s.first;
    begun = unrecorded (without_keys s.begun);
    granted = s.restarted.granted;
    credited = s.restarted.credited;
    started = s.restarted.started;
    names = s.restarted.names;
    kept = s.restarted.kept;
    end = unrecorded (without_keys s.end);
    legal = (same_answers starts_by looks_by takes_by taken failed asked_by_name.0 (without_keys s.begun) (without_keys s.end) s.restarted.in_step asked_by_name.2).0;
  }

  pub recorded_tenants : (heard plain asked : List HistoryEntry) × AreAskedOfDesks s.serving.history heard × AreAskedPlainly (hosted_tenants_recorded taken failed) (λ y. y ≡ s.begun) heard plain s.end × AreAskedByName (door_names doors) plain asked
      × IsRecoveredTenantHistory (desks_of states) doors bounds asked
  recorded_tenants = (
    past_counts.0,
    asked_of_doors.0,
    asked_by_name.0,
    past_counts.1,
    asked_of_doors.1,
    subst (λ (names : List (List ℕ)). AreAskedByName names asked_of_doors.0 asked_by_name.0) s.restarted.names asked_by_name.1,
    recovered,
  )
