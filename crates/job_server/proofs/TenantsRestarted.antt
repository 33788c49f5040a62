-- The desks of tenants whose open jobs were started again: each one's jobs stand for those that are known.
use Rattle.std.proofs.Common.{◌≡◌, ◌≢◌, ◌⊎◌, ◌+◌, ◌<◌, ◌≤◌, ℕ, List, [], ◌∷◌, ◌++◌, length, slice_get, Option, Some, None, Result, Ok, Err, refl, sym, ap, subst, ◌∙◌, inl, inr, arith}
use Rattle.std.proofs.lemmas.List.{length-append}
use Rattle.std.proofs.lemmas.Option.{slice_get_within}
use Rattle.credit_book.specs.declared.book.Report.{Report}
use Rattle.credit_book.specs.declared.board.Progress.{Progress}
use Rattle.job_core.specs.Admitted.{AdmittedJob}
use Rattle.accounts.specs.declared.keep_limits.KeepLimits.{KeepLimits}
use Rattle.accounts.specs.Ledgers.{Ledger}
use Rattle.desk_journal.specs.DeskSteps.{DeskState}
use Rattle.desk_journal.specs.declared.journaled_desk.OpenJob.{OpenJob}
use Rattle.desk_journal.proofs.OpenLemmas.{AreHeldOpen, get_pushed}
use Rattle.desk_recorder.specs.Restarts.{StartsEach, none_yet, one_more}
use Rattle.tenant_desks.specs.declared.placed_runner.PlacedRunner.{PlacedRunner}
use Rattle.tenant_desks.specs.Answering.{for_place}
use Rattle.tenant_desks.specs.PlacedRunners.{looks_placed, starts_placed, takes_placed}
use Rattle.tenant_desks.specs.Placing.{placed}
use Rattle.tenant_desks.specs.Tenancies.{ChangesAt}
use Rattle.tenant_desks.proofs.SeenLemmas.{changed_apart, changed_here}
use Rattle.tenant_recorder.specs.TenantRestarts.{RestartsEach, none_yet as none_restarted, one_more as one_restarted}
use Rattle.job_server.specs.AfterRestart.{AreRecovered, KnownJob}
use Rattle.job_server.proofs.HistoryStands.{HoldsJobs}
use Rattle.job_server.proofs.Restarted.{restarted_stand}
use Rattle.job_server.proofs.SeenHolds.{apart_from}
use Rattle.job_server.proofs.StandsFor.{AllStand, all_stand}

module _ {R : Type 0} (starts : R → ℕ → AdmittedJob → Result (Unit {0}) ℕ → R → Type 0) (looks : R → ℕ → Progress → R → Type 0) (takes : R → Option (ℕ × Result Report ℕ) → R → Type 0)
    (held : R → ℕ → Option AdmittedJob) (holds : HoldsJobs starts looks takes held) where
  -- ---- a runner for one desk of many

  -- the job of a number there
  abbrev held_placed : PlacedRunner R → ℕ → Option AdmittedJob
  held_placed x n = held x.runner (placed n x.place)

  placed_apart : (m n place : ℕ) → m ≢ n → placed m place ≢ placed n place
  placed_apart m n place apart same = apart (omega (arith, same))

  same_place : (r s : PlacedRunner R) → s.place ≡ r.place → (n : ℕ) → held_placed s n ≡ held s.runner (placed n r.place)
  same_place r s same n = ap (λ (place : ℕ). held s.runner (placed n place)) same

  placed_started : (r : PlacedRunner R) (n : ℕ) (job : AdmittedJob) (done : Unit {0}) (s : PlacedRunner R) → starts_placed starts r n job (Ok done) s
      → (held_placed s n ≡ Some job) × ((m : ℕ) → m ≢ n → held_placed s m ≡ held_placed r m)
  placed_started r n job done s (inl t, same) =
      let h = holds.started r.runner (placed n r.place) job done s.runner t.1 in (
        same_place r s same n ∙ h.0,
        λ m apart. same_place r s same m ∙ h.1 (placed m r.place) (placed_apart m n r.place apart),
      )
  placed_started r n job done s (inr t, same) = absurd (let clash : ◌≡◌ {A = Result (Unit {0}) ℕ} (Ok done) (Err 81) = t.1 in cc)

  placed_refused : (r : PlacedRunner R) (n : ℕ) (job : AdmittedJob) (code : ℕ) (s : PlacedRunner R) → starts_placed starts r n job (Err code) s
      → ((code ≡ 81) ⊎ (code ≡ 99)) × ((m : ℕ) → held_placed s m ≡ held_placed r m)
  placed_refused r n job code s (inl t, same) =
      let h = holds.refused r.runner (placed n r.place) job code s.runner t.1 in
      (h.0, λ m. same_place r s same m ∙ h.1 (placed m r.place))
  placed_refused r n job code s (inr t, same) =
      let is : code ≡ 81 = let told : ◌≡◌ {A = Result (Unit {0}) ℕ} (Err code) (Err 81) = t.1 in cc in
      (inl is, λ m. same_place r s same m ∙ ap (λ (x : R). held x (placed m r.place)) t.2)

  placed_looked : (r : PlacedRunner R) (n : ℕ) (told : Progress) (s : PlacedRunner R) → looks_placed looks r n told s → (m : ℕ) → held_placed s m ≡ held_placed r m
  placed_looked r n told s (inl t, same) m = same_place r s same m ∙ holds.looked r.runner (placed n r.place) told s.runner t.1 (placed m r.place)
  placed_looked r n told s (inr t, same) m = same_place r s same m ∙ ap (λ (x : R). held x (placed m r.place)) t.2

  none_taken : (r : PlacedRunner R) (n : ℕ) (outcome : Result Report ℕ) (s : PlacedRunner R) → takes_placed r (Some (n, outcome)) s → ⊥
  none_taken r n outcome s t = let clash : ◌≡◌ {A = Option (ℕ × Result Report ℕ)} (Some (n, outcome)) None = t.0 in absurd cc

  placed_holds : HoldsJobs (starts_placed starts) (looks_placed looks) takes_placed held_placed
  placed_holds = record {
    started = placed_started;
    refused = placed_refused;
    looked = placed_looked;
    taken = λ r n outcome s t. absurd (none_taken r n outcome s t);
    none = λ r s t m. ap (λ (x : PlacedRunner R). held_placed x m) t.1;
  }

  -- ---- starts for another desk

  module _ (place : ℕ) (small : place < 1000) where
    abbrev own : R → ℕ → Option AdmittedJob
    own r m = held r (placed m place)

    one_apart : (k : ℕ) → k ≢ place → k < 1000 → (r : PlacedRunner R) (n : ℕ) (job : AdmittedJob) (outcome : Result (Unit {0}) ℕ) (s : PlacedRunner R) → r.place ≡ k → starts_placed starts r n job outcome s
        → (m : ℕ) → own s.runner m ≡ own r.runner m
    one_apart k other few r n job (Ok done) s at (inl t, same) m =
        (holds.started r.runner (placed n r.place) job done s.runner t.1).1 (placed m place)
        (apart_from starts looks takes held holds place small m n r.place (λ e. other (sym at ∙ e)) (subst (λ (x : ℕ). x < 1000) (sym at) few))
    one_apart k other few r n job (Err code) s at (inl t, same) m = (holds.refused r.runner (placed n r.place) job code s.runner t.1).1 (placed m place)
    one_apart k other few r n job outcome s at (inr t, same) m = ap (λ (x : R). own x m) t.2

    starts_apart : (k : ℕ) → k ≢ place → k < 1000 → (d : Ledger) (x : PlacedRunner R) → x.place ≡ k → (jobs : List OpenJob) (e : Ledger) (y : PlacedRunner R) → StartsEach (starts_placed starts) d x jobs e y
        → (y.place ≡ k) × ((m : ℕ) → own y.runner m ≡ own x.runner m)
    starts_apart k other few d x at _ _ _ none_yet = (at, λ m. refl)
    starts_apart k other few d x at _ e y (one_more jobs c r job outcome s b before step noted) =
        let was = starts_apart k other few d x at jobs c r before in
        (step.1 ∙ was.0, λ m. one_apart k other few r job.number job.job outcome y was.0 step m ∙ was.1 m)

    -- ---- all desks, one after the other

    module _ (changes : List (List ℕ)) (state : DeskState) (sound : AreHeldOpen changes state) (keep : KeepLimits) (known : List KnownJob) (recovered : AreRecovered state known) (first : Ledger) (jobs_are : first.jobs ≡ state.desk.jobs) where
      -- Ahead of its turn the desk is as it was. Behind that its jobs stand for those that are known.
      pub record HadTurn (helds : List (List OpenJob)) (ds : List Ledger) (r : R) : Type 0 where
        pub ahead : length helds ≤ place → slice_get ds place ≡ Some first
        pub behind : slice_get helds place ≡ Some state.held → (d : Ledger) × (slice_get ds place ≡ Some d) × AllStand keep known d.jobs (own r)

      own_turn : (jobs : List OpenJob) (d : Ledger) (r s : R) → jobs ≡ state.held → StartsEach (starts_placed starts) first (for_place place r) jobs d (for_place place s) → AllStand keep known d.jobs (own s)
      own_turn jobs d r s is each =
          restarted_stand changes state sound keep known recovered (starts_placed starts) (looks_placed looks) takes_placed held_placed placed_holds first jobs_are (for_place place r) d (for_place place s)
          (subst (λ (l : List OpenJob). StartsEach (starts_placed starts) first (for_place place r) l d (for_place place s)) is each)

      module _ (before : List (List OpenJob)) (ds : List Ledger) (r : R) (jobs : List OpenJob) (es : List Ledger) (s : R) (was : HadTurn before ds r)
          (change : ChangesAt (length before) (λ d e. StartsEach (starts_placed starts) d (for_place (length before) r) jobs e (for_place (length before) s)) ds es) where
        abbrev Starting : Ledger → Ledger → Type 0
        Starting d e = StartsEach (starts_placed starts) d (for_place (length before) r) jobs e (for_place (length before) s)

        longer : length (before ++ jobs ∷ []) ≡ length before + 1
        longer = length-append before (jobs ∷ [])

        -- another desk's turn
        apart : (d : Ledger) → place ≢ length before → slice_get ds place ≡ Some d → slice_get es place ≡ Some d
        apart d other at = changed_apart Starting place ds es d at (length before) other change

        apart_behind : length before < 1000 → place < length before → slice_get before place ≡ Some state.held → (d : Ledger) × (slice_get es place ≡ Some d) × AllStand keep known d.jobs (own s)
        apart_behind few lt there =
            let b = was.behind there in
            let other : length before ≢ place = λ same. absurd (omega (arith, lt, same)) in
            let same = starts_apart (length before) other few change.before (for_place (length before) r) refl jobs change.after (for_place (length before) s) change.changed in (
              b.0,
              apart b.0 (λ e. other (sym e)) b.1,
              all_stand keep known b.0.jobs (own r) (own s) same.1 b.2,
            )

        -- its own turn
        turned : place ≡ length before → jobs ≡ state.held → (d : Ledger) × (slice_get es place ≡ Some d) × AllStand keep known d.jobs (own s)
        turned here is =
            let there = was.ahead (omega (arith, here)) in
            let t = changed_here Starting place ds es first there (length before) here change in
            (t.0, t.2, own_turn jobs t.0 r s is (subst (λ (k : ℕ). StartsEach (starts_placed starts) first (for_place k r) jobs t.0 (for_place k s)) (sym here) t.1))

        by_place : length before < 1000 → (slice_get before place ≡ Some state.held) ⊎ ((place ≡ length before) × (jobs ≡ state.held)) → (d : Ledger) × (slice_get es place ≡ Some d) × AllStand keep known d.jobs (own s)
        by_place few (inl there) = apart_behind few (slice_get_within before place state.held there) there
        by_place few (inr t) = turned t.0 t.1

        next_turn : length before < 1000 → HadTurn (before ++ jobs ∷ []) es s
        next_turn few = record {
          ahead = λ le.
              let later : length before + 1 ≤ place = subst (λ (n : ℕ). n ≤ place) longer le in
              apart first (λ same. absurd (omega (arith, later, same))) (was.ahead (omega (arith, later)));
          behind = λ there. by_place few (get_pushed before jobs place state.held there);
        }

      pub had_turn : (granted : List Ledger) (runner : R) → slice_get granted place ≡ Some first → (helds : List (List OpenJob)) (ds : List Ledger) (r : R) → RestartsEach starts granted runner helds ds r → length helds ≤ 1000 → HadTurn helds ds r
      had_turn granted runner at _ _ _ none_restarted few = record { ahead = λ le. at; behind = λ there. absurd (let clash : slice_get {X = List OpenJob} [] place ≡ Some state.held = there in cc) }
      had_turn granted runner at _ es s (one_restarted before ds r jobs d t restarts change) few =
          let longer = length-append before (jobs ∷ []) in
          let short : length before < 1000 = omega (arith, few, longer) in
          next_turn before ds r jobs es s (had_turn granted runner at before ds r restarts (omega (arith, short))) change short
