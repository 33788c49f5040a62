-- Desks of tenants whose changes are recorded, over two state types of their runner.
use Rattle.std.proofs.Common.{◌≡◌, ℕ, Bool, List, [], length, Option, None, Result, inl, inr, ap, subst}
use Rattle.credit_book.specs.declared.book.Report.{Report}
use Rattle.credit_book.specs.declared.board.Progress.{Progress}
use Rattle.job_core.specs.Admitted.{AdmittedJob}
use Rattle.accounts.specs.Ledgers.{Ledger}
use Rattle.keyed_desk.specs.KeyedSteps.{KeyedState}
use Rattle.desk_journal.specs.declared.journaled_desk.OpenJob.{OpenJob}
use Rattle.desk_recorder.specs.Restarts.{StartsEach}
use Rattle.desk_recorder.specs.Restarts as restarts
use Rattle.shared_desk.specs.ServerAsked.{answers_counting}
use Rattle.shared_desk.proofs.AskedOfDesks.{counting_alike}
use Rattle.shared_desk.specs.Histories.{Query}
use Rattle.tenant_desks.specs.declared.placed_runner.PlacedRunner.{PlacedRunner}
use Rattle.tenant_desks.specs.Placing.{placed}
use Rattle.tenant_desks.specs.PlacedRunners.{starts_placed}
use Rattle.tenant_desks.specs.Tenancies.{Tenancy}
use Rattle.tenant_desks.specs.Answering.{for_place}
use Rattle.tenant_recorder.specs.TenantRestarts.{RestartsEach, none_yet, one_more}
use Rattle.tenant_desks.specs.AtDoors.{BehindDoors, without_keys}
use Rattle.tenant_desks.proofs.DoorLemmas.{doors_alike, doors_as}
use Rattle.tenant_recorder.specs.TenantsRecorded.{RecordedRunner, door_answers_recorded, keeps_recorded_key, named_answers_recorded, tenant_answers_recorded, unrecorded}
use Rattle.job_pools.specs.declared.limited_runner.LimitedRunner.{LimitedRunner}
use Rattle.job_pools.specs.LineBounded.{looks_by_line, new_by_line, starts_by_line, takes_by_line}
use Rattle.job_pools.specs.declared.line_limited_runner.LineLimitedRunner.{LineLimitedRunner}
use Rattle.job_pools.specs.Bounded.{looks_within, starts_within, takes_within}
use Rattle.job_pools.specs.Holds.{StartsBy, TellsBy, TakesBy}
use Rattle.job_pools.specs.Started.{pooled_at, pooled_count}
use Rattle.job_server.specs.declared.bounds.Bounds.{Bounds}
use Rattle.job_server.specs.declared.fault.ServeFault.{ServeFault}
use Rattle.job_server.specs.declared.tenant_door.TenantDoor.{TenantDoor}
use Rattle.job_server.specs.AtOnce.{IsServingFrom, Pool}
use Rattle.job_server.specs.TenantLimits.{door_limits}
use Rattle.job_server.specs.TenantServing.{door_credits}
use Rattle.job_server.specs.TenantRecorded.{AreRestarted, IsServingTenantsRecorded, desks_of, hosted_answers_recorded, keys_of, open_jobs_of, recovered_tenancy}
use Rattle.job_server.proofs.AtOnceAlike.{limited, serving_kept}
use Rattle.job_server.proofs.RecordedAlike.{limited_is}
use Rattle.job_server.proofs.TenantAlike.{desks_alike, in_lines, line_starts, pool_looks, pool_starts, pool_takes}

-- a handler, and desks with it, with what its runner comes to
abbrev pub recorded_as : {R T Q : Type 0} → (R → T) → RecordedRunner R Q → RecordedRunner T Q
recorded_as f h = record { runner = f h.runner; keep = h.keep; recorders = h.recorders }

abbrev pub tenants_as : {R T Q : Type 0} → (R → T) → Tenancy × RecordedRunner R Q → Tenancy × RecordedRunner T Q
tenants_as f s = (s.0, recorded_as f s.1)

module _ {R T : Type 0} (f : R → T) (starts : R → ℕ → AdmittedJob → Result (Unit {0}) ℕ → R → Type 0) (starts1 : T → ℕ → AdmittedJob → Result (Unit {0}) ℕ → T → Type 0)
    (starts_alike : (r : R) (n : ℕ) (o : AdmittedJob) (x : Result (Unit {0}) ℕ) (s : R) → starts r n o x s → starts1 (f r) n o x (f s)) where
  -- a runner for one desk, with what its runner comes to
  abbrev at_place : PlacedRunner R → PlacedRunner T
  at_place p = record { runner = f p.runner; place = p.place }

  starts_at_place : (r : PlacedRunner R) (n : ℕ) (o : AdmittedJob) (x : Result (Unit {0}) ℕ) (s : PlacedRunner R) → starts_placed starts r n o x s → starts_placed starts1 (at_place r) n o x (at_place s)
  starts_at_place r n o x s h = (
    elim h.0 [
      | inl fits ↦ inl (fits.0, starts_alike r.runner (placed n r.place) o x s.runner fits.1)
      | inr over ↦ inr (over.0, over.1, ap f over.2)
    ],
    h.1,
  )

  each_at_place : (desk : Ledger) (r : PlacedRunner R) (jobs : List OpenJob) (after : Ledger) (left : PlacedRunner R) → StartsEach (starts_placed starts) desk r jobs after left → StartsEach (starts_placed starts1) desk (at_place r) jobs after (at_place left)
  each_at_place desk r jobs after left restarts.none_yet = restarts.none_yet
  each_at_place desk r jobs after left (restarts.one_more earlier d q job outcome s e before starts_one noted) =
      restarts.one_more earlier d (at_place q) job outcome (at_place s) e (each_at_place desk r earlier d q before) (starts_at_place q job.number job.job outcome s starts_one) noted

  pub restarts_alike : (desks : List Ledger) (runner : R) (jobs : List (List OpenJob)) (after : List Ledger) (left : R) → RestartsEach starts desks runner jobs after left → RestartsEach starts1 desks (f runner) jobs after (f left)
  restarts_alike desks runner jobs after left none_yet = none_yet
  restarts_alike desks runner jobs after left (one_more before ds r js es s earlier step) =
      one_more before ds (f r) js es (f s) (restarts_alike desks runner before ds r earlier) (record {
        before = step.before;
        was = step.was;
        after = step.after;
        changed = each_at_place step.before (for_place (length before) r) js step.after (for_place (length before) s) step.changed;
        is = step.is;
      })

module _ {R T Q : Type 0} (f : R → T) (taken : Q → List ℕ) (failed : Q → Type 0)
    (starts : R → ℕ → AdmittedJob → Result (Unit {0}) ℕ → R → Type 0) (looks : R → ℕ → Progress → R → Type 0) (takes : R → Option (ℕ × Result Report ℕ) → R → Type 0)
    (starts1 : T → ℕ → AdmittedJob → Result (Unit {0}) ℕ → T → Type 0) (looks1 : T → ℕ → Progress → T → Type 0) (takes1 : T → Option (ℕ × Result Report ℕ) → T → Type 0)
    (starts_alike : (r : R) (n : ℕ) (o : AdmittedJob) (x : Result (Unit {0}) ℕ) (s : R) → starts r n o x s → starts1 (f r) n o x (f s))
    (looks_alike : (r : R) (n : ℕ) (p : Progress) (s : R) → looks r n p s → looks1 (f r) n p (f s))
    (takes_alike : (r : R) (x : Option (ℕ × Result Report ℕ)) (s : R) → takes r x s → takes1 (f r) x (f s)) where
  pub tenants_recorded_alike : (s : Tenancy × RecordedRunner R Q) (query : Query) (reply : List ℕ) (t : Tenancy × RecordedRunner R Q)
      → named_answers_recorded starts looks takes taken failed s query reply t → named_answers_recorded starts1 looks1 takes1 taken failed (tenants_as f s) query reply (tenants_as f t)
  tenants_recorded_alike s query reply t h = (
    λ step. (desks_alike f starts looks takes starts1 looks1 takes1 starts_alike looks_alike takes_alike (unrecorded s) query reply (unrecorded t) (h.0 step).0, (h.0 step).1),
    h.1,
  )

module _ {R Q J : Type 0} (f : R → Pool) (taken : Q → List ℕ) (failed : Q → Type 0) (journal_of : Q → J)
    (starts : R → ℕ → AdmittedJob → Result (Unit {0}) ℕ → R → Type 0) (looks : R → ℕ → Progress → R → Type 0) (takes : R → Option (ℕ × Result Report ℕ) → R → Type 0)
    (starts_alike : (r : R) (n : ℕ) (j : AdmittedJob) (x : Result (Unit {0}) ℕ) (s : R) → starts r n j x s → StartsBy pooled_at pooled_count (f r) n j x (f s))
    (looks_alike : (r : R) (n : ℕ) (p : Progress) (s : R) → looks r n p s → TellsBy pooled_at pooled_count (f r) n p (f s))
    (takes_alike : (r : R) (x : Option (ℕ × Result Report ℕ)) (s : R) → takes r x s → TakesBy pooled_at pooled_count (f r) x (f s)) where
  abbrev starts_lined : LineLimitedRunner (LimitedRunner R) → ℕ → AdmittedJob → Result (Unit {0}) ℕ → LineLimitedRunner (LimitedRunner R) → Type 0
  starts_lined = starts_by_line (starts_within (λ r. pooled_count (f r)) starts)

  abbrev pooled : LineLimitedRunner (LimitedRunner R) → LineLimitedRunner (LimitedRunner Pool)
  pooled = in_lines (limited f)

  lined_starts : (l : LineLimitedRunner (LimitedRunner R)) (n : ℕ) (j : AdmittedJob) (x : Result (Unit {0}) ℕ) (m : LineLimitedRunner (LimitedRunner R)) → starts_lined l n j x m
      → starts_by_line (starts_within pooled_count (StartsBy pooled_at pooled_count)) (pooled l) n j x (pooled m)
  lined_starts =
      line_starts (limited f) (starts_within (λ r. pooled_count (f r)) starts) (looks_within looks) (takes_within takes)
      (starts_within pooled_count (StartsBy pooled_at pooled_count)) (looks_within (TellsBy pooled_at pooled_count)) (takes_within (TakesBy pooled_at pooled_count))
      (pool_starts f starts looks takes starts_alike looks_alike takes_alike) (pool_looks f starts looks takes starts_alike looks_alike takes_alike) (pool_takes f starts looks takes starts_alike looks_alike takes_alike)

  lined_looks : (l : LineLimitedRunner (LimitedRunner R)) (n : ℕ) (p : Progress) (m : LineLimitedRunner (LimitedRunner R)) → looks_by_line (looks_within looks) l n p m
      → looks_by_line (looks_within (TellsBy pooled_at pooled_count)) (pooled l) n p (pooled m)
  lined_looks l n p m h = (pool_looks f starts looks takes starts_alike looks_alike takes_alike l.runner n p m.runner h.0, h.1, h.2)

  lined_takes : (l : LineLimitedRunner (LimitedRunner R)) (x : Option (ℕ × Result Report ℕ)) (m : LineLimitedRunner (LimitedRunner R)) → takes_by_line (takes_within takes) l x m
      → takes_by_line (takes_within (TakesBy pooled_at pooled_count)) (pooled l) x (pooled m)
  lined_takes l x m h = (pool_takes f starts looks takes starts_alike looks_alike takes_alike l.runner x m.runner h.0, h.1, h.2)

  hosted_recorded_alike : (s : Tenancy × RecordedRunner (LineLimitedRunner (LimitedRunner R)) Q) (query : Query) (reply : List ℕ) (t : Tenancy × RecordedRunner (LineLimitedRunner (LimitedRunner R)) Q)
      → tenant_answers_recorded starts_lined (looks_by_line (looks_within looks)) (takes_by_line (takes_within takes)) taken failed s query reply t
      → tenant_answers_recorded (starts_by_line (starts_within pooled_count (StartsBy pooled_at pooled_count))) (looks_by_line (looks_within (TellsBy pooled_at pooled_count)))
      (takes_by_line (takes_within (TakesBy pooled_at pooled_count))) taken failed (tenants_as pooled s) query reply (tenants_as pooled t)
  hosted_recorded_alike s query reply t (asked, own, answered) = (
    asked,
    own,
    tenants_recorded_alike pooled taken failed starts_lined (looks_by_line (looks_within looks)) (takes_by_line (takes_within takes))
        (starts_by_line (starts_within pooled_count (StartsBy pooled_at pooled_count))) (looks_by_line (looks_within (TellsBy pooled_at pooled_count))) (takes_by_line (takes_within (TakesBy pooled_at pooled_count)))
        lined_starts lined_looks lined_takes s (record { passage = query.passage; asked = asked; beyond = None }) reply t answered,
  )

  hosted_doors_recorded_alike : (s : Tenancy × BehindDoors (RecordedRunner (LineLimitedRunner (LimitedRunner R)) Q)) (query : Query) (reply : List ℕ) (t : Tenancy × BehindDoors (RecordedRunner (LineLimitedRunner (LimitedRunner R)) Q))
      → door_answers_recorded starts_lined (looks_by_line (looks_within looks)) (takes_by_line (takes_within takes)) taken failed s query reply t
      → hosted_answers_recorded taken failed (doors_as (recorded_as pooled) s) query reply (doors_as (recorded_as pooled) t)
  hosted_doors_recorded_alike =
      doors_alike (tenant_answers_recorded starts_lined (looks_by_line (looks_within looks)) (takes_by_line (takes_within takes)) taken failed)
      (tenant_answers_recorded (starts_by_line (starts_within pooled_count (StartsBy pooled_at pooled_count))) (looks_by_line (looks_within (TellsBy pooled_at pooled_count))) (takes_by_line (takes_within (TakesBy pooled_at pooled_count))) taken failed)
      (recorded_as pooled) hosted_recorded_alike (keeps_recorded_key taken failed) (keeps_recorded_key taken failed) (λ s door key t kept. kept)

  -- the pool's own state is forgotten, but for the jobs that it was given and the boards that it watches
  pub tenants_recorded_serving : (journals : List J) (states : List KeyedState) (doors : List TenantDoor) (bounds : Bounds) (l : LimitedRunner R) (pool : R) (begun end : Tenancy × BehindDoors (RecordedRunner (LineLimitedRunner (LimitedRunner R)) Q)) (sessions : ℕ) (may_stop : Bool)
      (outcome : Result (Unit {0}) ServeFault) → l.runner ≡ pool → l.limit ≡ bounds.open_jobs → ((f pool).0 ≡ []) × ((f pool).1.entries ≡ [])
      → AreRestarted starts_lined taken failed journal_of journals (recovered_tenancy doors (desks_of states)) (door_credits doors) (open_jobs_of (desks_of states)) (new_by_line (door_limits bounds.tenant_jobs doors) l) bounds.keep (without_keys begun)
      → begun.1.keys ≡ keys_of states
      → (serving : IsServingFrom (answers_counting (door_answers_recorded starts_lined (looks_by_line (looks_within looks)) (takes_by_line (takes_within takes)) taken failed)) (λ s. s ≡ begun) end sessions may_stop outcome)
      → (recorded : IsServingTenantsRecorded taken failed journal_of journals states doors bounds sessions may_stop outcome) × (recorded.serving.opened ≡ serving.opened) × (recorded.serving.closed ≡ serving.closed)
  tenants_recorded_serving journals states doors bounds l pool begun end sessions may_stop outcome is_pool is_limit none restarted keys serving =
      let kept = serving_kept (doors_as (recorded_as pooled))
      (answers_counting (door_answers_recorded starts_lined (looks_by_line (looks_within looks)) (takes_by_line (takes_within takes)) taken failed))
      (answers_counting (hosted_answers_recorded taken failed))
      (counting_alike (door_answers_recorded starts_lined (looks_by_line (looks_within looks)) (takes_by_line (takes_within takes)) taken failed) (hosted_answers_recorded taken failed) (doors_as (recorded_as pooled)) hosted_doors_recorded_alike)
      (λ s. s ≡ begun) (λ s. s ≡ doors_as (recorded_as pooled) begun) (λ s is. ap (doors_as (recorded_as pooled)) is)
      end sessions may_stop outcome serving in (
        record {
          first = f pool;
          none = none;
          begun = doors_as (recorded_as pooled) begun;
          restarted = record {
            fresh = restarted.fresh;
            none = restarted.none;
            own = restarted.own;
            paired = restarted.paired;
            granted = restarted.granted;
            credited = restarted.credited;
            started = subst
                (λ (x : LimitedRunner Pool). RestartsEach (starts_by_line (starts_within pooled_count (StartsBy pooled_at pooled_count))) restarted.granted (new_by_line (door_limits bounds.tenant_jobs doors) x) (open_jobs_of (desks_of states)) begun.0.desks (pooled begun.1.handler.runner))
                (limited_is f bounds l pool is_pool is_limit)
                (restarts_alike pooled starts_lined (starts_by_line (starts_within pooled_count (StartsBy pooled_at pooled_count))) lined_starts restarted.granted (new_by_line (door_limits bounds.tenant_jobs doors) l) (open_jobs_of (desks_of states)) begun.0.desks begun.1.handler.runner restarted.started);
            recorded = restarted.recorded;
            names = restarted.names;
            kept = restarted.kept;
            in_step = restarted.in_step;
          };
          keys = keys;
          end = doors_as (recorded_as pooled) end;
          serving = kept.0;
        },
        kept.1,
        kept.2,
      )
