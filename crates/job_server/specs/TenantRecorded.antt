-- A server whose tenants have doors, and each of whose desks has a journal.
use Rattle.std.specs.Prelude.{◌≡◌, ℕ, Bool, false, true, List, [], ◌∷◌, length, map, Option, Result}
use Rattle.job_core.specs.Admitted.{AdmittedJob}
use Rattle.accounts.specs.declared.keep_limits.KeepLimits.{KeepLimits}
use Rattle.accounts.specs.Ledgers.{Ledger}
use Rattle.desk_journal.specs.DeskSteps.{DeskState}
use Rattle.desk_journal.specs.declared.journaled_desk.OpenJob.{OpenJob}
use Rattle.desk_recorder.specs.declared.recorder.ChangeRecorder.{ChangeRecorder}
use Rattle.sessions.specs.declared.job_key.KeyedJob.{KeyedJob}
use Rattle.keyed_desk.specs.KeyedSteps.{KeyedState}
use Rattle.shared_desk.specs.Histories.{Query}
use Rattle.shared_desk.specs.ServerAsked.{answers_counting}
use Rattle.tenant_desks.specs.AtDoors.{BehindDoors, without_keys}
use Rattle.tenant_desks.specs.Tenancies.{Tenancy}
use Rattle.tenant_recorder.specs.Recorders.{AreRecorded}
use Rattle.tenant_recorder.specs.TenantCredits.{AreCredited}
use Rattle.tenant_recorder.specs.TenantRestarts.{RestartsEach}
use Rattle.tenant_recorder.specs.TenantsRecorded.{AreInStep, RecordedRunner, door_answers_recorded, tenant_answers_recorded}
use Rattle.job_pools.specs.Holds.{StartsBy, TellsBy, TakesBy}
use Rattle.job_pools.specs.Started.{pooled_at, pooled_count}
use Rattle.job_pools.specs.Bounded.{looks_within, starts_within, takes_within}
use Rattle.job_pools.specs.declared.limited_runner.LimitedRunner.{LimitedRunner}
use Rattle.job_pools.specs.LineBounded.{looks_by_line, new_by_line, starts_by_line, takes_by_line}
use Rattle.job_pools.specs.declared.line_limited_runner.LineLimitedRunner.{LineLimitedRunner}
use Rattle.job_server.specs.declared.bounds.Bounds.{Bounds}
use Rattle.job_server.specs.declared.fault.ServeFault.{ServeFault}
use Rattle.job_server.specs.declared.tenant_door.TenantDoor.{TenantDoor}
use Rattle.job_server.specs.AtOnce.{IsServingFrom, Pool}
use Rattle.job_server.specs.TenantLimits.{door_limits}
use Rattle.job_server.specs.TenantServing.{door_credits, door_names}

-- the desks that were recovered, with their open jobs, and the keys that were remembered at each
abbrev pub desks_of : List KeyedState → List DeskState
desks_of states = map (λ (s : KeyedState). s.desk) states

abbrev pub keys_of : List KeyedState → List (List KeyedJob)
keys_of states = map (λ (s : KeyedState). s.keys) states

-- the desks that were recovered: that of everybody else, and behind it that of each of these doors'
-- tenants
abbrev pub recovered_tenancy : List TenantDoor → List DeskState → Tenancy
recovered_tenancy doors states =
    record { names = door_names doors; desks = map (λ (s : DeskState). s.desk) states }

-- the open jobs of each of these desks
abbrev pub open_jobs_of : List DeskState → List (List OpenJob)
open_jobs_of states = map (λ (s : DeskState). s.held) states

-- recorders of queues that have taken nothing: each goes on, and has noted that its desk may have
-- changed
abbrev pub AreFresh : {Q : Type 0} → (Q → List ℕ) → List (ChangeRecorder Q) → Type 0
AreFresh taken [] = Unit {0}
AreFresh taken (r ∷ recorders) =
    (taken r.queue ≡ []) × (r.is_stopped ≡ false) × (r.has_changed ≡ true)
    × AreFresh taken recorders

-- A server of tenants begins here: at recovered desks, where each tenant has its first credit, and
-- each of whose open jobs was started again, once and in order. Those that were refused are over. Each
-- desk's records go to its own journal, and those of that are the first that its queue takes.
pub record AreRestarted {R Q J : Type 0}
    (starts : R → ℕ → AdmittedJob → Result (Unit {0}) ℕ → R → Type 0) (taken : Q → List ℕ)
    (failed : Q → Type 0) (journal_of : Q → J) (journals : List J) (recovered : Tenancy)
    (tenants : List (List ℕ × Option ℕ)) (held : List (List OpenJob)) (runner : R)
    (keep : KeepLimits) (begun : Tenancy × RecordedRunner R Q) : Type 0 where
  pub fresh : List (ChangeRecorder Q)
  pub none : AreFresh taken fresh
  pub own : map (λ (r : ChangeRecorder Q). journal_of r.queue) fresh ≡ journals
  pub paired : length fresh ≡ length recovered.desks
  pub granted : List Ledger
  pub credited : AreCredited tenants recovered.desks granted
  pub started : RestartsEach starts granted runner held begun.0.desks begun.1.runner
  pub recorded : AreRecorded taken failed fresh begun.1.recorders recovered.desks begun.0.desks
  pub names : begun.0.names ≡ recovered.names
  pub kept : begun.1.keep ≡ keep
  pub in_step : AreInStep begun

-- the desks, and a pool within its host's bounds, of all and of each tenant, with the queues of the
-- desks' changes, behind doors that remember keys
abbrev pub RecordedTenantHosted : Type 0 → Type 0
RecordedTenantHosted Q =
    Tenancy × BehindDoors (RecordedRunner (LineLimitedRunner (LimitedRunner Pool)) Q)

abbrev pub hosted_answers_recorded : {Q : Type 0} → (Q → List ℕ) → (Q → Type 0)
    → RecordedTenantHosted Q → Query → List ℕ → RecordedTenantHosted Q → Type 0
hosted_answers_recorded taken failed =
    door_answers_recorded
    (starts_by_line (starts_within pooled_count (StartsBy pooled_at pooled_count)))
    (looks_by_line (looks_within (TellsBy pooled_at pooled_count)))
    (takes_by_line (takes_within (TakesBy pooled_at pooled_count))) taken failed

-- the same without the doors' own forms: a tenant's name may be left out at its own door
abbrev pub hosted_tenants_recorded : {Q : Type 0} → (Q → List ℕ) → (Q → Type 0)
    → Tenancy × RecordedRunner (LineLimitedRunner (LimitedRunner Pool)) Q → Query → List ℕ
    → Tenancy × RecordedRunner (LineLimitedRunner (LimitedRunner Pool)) Q → Type 0
hosted_tenants_recorded taken failed =
    tenant_answers_recorded
    (starts_by_line (starts_within pooled_count (StartsBy pooled_at pooled_count)))
    (looks_by_line (looks_within (TellsBy pooled_at pooled_count)))
    (takes_by_line (takes_within (TakesBy pooled_at pooled_count))) taken failed

-- So many connections are served, first at recovered desks, whose own doors remember the keys that
-- were recovered. Jobs run on a pool that lasts, within the bounds. Each change of a desk is recorded in
-- its own journal's queue.
pub record IsServingTenantsRecorded {Q J : Type 0} (taken : Q → List ℕ) (failed : Q → Type 0)
    (journal_of : Q → J) (journals : List J) (states : List KeyedState) (doors : List TenantDoor)
    (bounds : Bounds) (sessions : ℕ) (may_stop : Bool) (outcome : Result (Unit {0}) ServeFault) :
    Type 0 where
  pub first : Pool
  pub none : (first.0 ≡ []) × (first.1.entries ≡ [])
  pub begun : RecordedTenantHosted Q
  pub restarted :
      AreRestarted (starts_by_line (starts_within pooled_count (StartsBy pooled_at pooled_count)))
      taken failed journal_of journals (recovered_tenancy doors (desks_of states))
      (door_credits doors) (open_jobs_of (desks_of states))
      (new_by_line (door_limits bounds.tenant_jobs doors)
      (record { runner = first; limit = bounds.open_jobs }))
      bounds.keep (without_keys begun)
  pub keys : begun.1.keys ≡ keys_of states
  pub end : RecordedTenantHosted Q
  pub serving : IsServingFrom (answers_counting (hosted_answers_recorded taken failed))
      (λ s. s ≡ begun) end sessions may_stop outcome
