-- Servers of which some tenants may have a door, and a desk, of their own.
use Rattle.std.specs.Prelude.{◌≡◌, ℕ, ◌+◌, Bool, false, List, [], ◌∷◌, All, length, map, replicate, string_bytes, Option, Result}
use Rattle.sessions.specs.declared.job_key.KeyedJob.{KeyedJob}
use Rattle.shared_desk.specs.Histories.{Query}
use Rattle.shared_desk.specs.ServerAsked.{answers_counting}
use Rattle.shared_desk.specs.declared.door.Door.TheVariants.{Tenant}
use Rattle.shared_desk.specs.declared.passage.Passage.{Passage}
use Rattle.tenant_desks.specs.Tenancies.{IsFirstTenancy, Tenancy}
use Rattle.tenant_desks.specs.Answering.{KeptRunner, tenant_answers}
use Rattle.tenant_desks.specs.AtDoors.{BehindDoors, answers_at_doors, keeps_no_key}
use Rattle.job_pools.specs.Holds.{StartsBy, TellsBy, TakesBy}
use Rattle.job_pools.specs.Started.{pooled_at, pooled_count}
use Rattle.job_pools.specs.Bounded.{looks_within, starts_within, takes_within}
use Rattle.job_pools.specs.declared.limited_runner.LimitedRunner.{LimitedRunner}
use Rattle.job_pools.specs.LineBounded.{looks_by_line, new_by_line, starts_by_line, takes_by_line}
use Rattle.job_pools.specs.declared.line_limited_runner.LineLimitedRunner.{LineLimitedRunner}
use Rattle.job_server.specs.declared.bounds.Bounds.{Bounds}
use Rattle.job_server.specs.declared.fault.ServeFault.{ServeFault}
use Rattle.job_server.specs.declared.tenant_door.TenantDoor.{TenantDoor}
use Rattle.job_server.specs.TenantLimits.{door_limits}
use Rattle.job_server.specs.AtOnce.{IsServing, IsServingFrom, Pool}
use Rattle.job_server.specs.Listening.{AreOf, CameBy}

-- the names of the tenants that have a door
abbrev pub door_names : List TenantDoor → List (List ℕ)
door_names doors = map (λ (d : TenantDoor). string_bytes d.name) doors

-- each with the credit that it is granted at first, if it is
abbrev pub door_credits : List TenantDoor → List (List ℕ × Option ℕ)
door_credits doors = map (λ (d : TenantDoor). (string_bytes d.name, d.credit)) doors

-- the desks, and a pool within its host's bounds, of all and of each tenant, that runs all jobs
abbrev pub TenantHosted : Type 0
TenantHosted = Tenancy × KeptRunner (LineLimitedRunner (LimitedRunner Pool))

abbrev pub hosted_tenant_answers : TenantHosted → Query → List ℕ → TenantHosted → Type 0
hosted_tenant_answers =
    tenant_answers
    (starts_by_line (starts_within pooled_count (StartsBy pooled_at pooled_count)))
    (looks_by_line (looks_within (TellsBy pooled_at pooled_count)))
    (takes_by_line (takes_within (TakesBy pooled_at pooled_count)))

-- the same, behind doors that hear forms of their own, and remember keys
abbrev pub DoorsHosted : Type 0
DoorsHosted = Tenancy × BehindDoors (KeptRunner (LineLimitedRunner (LimitedRunner Pool)))

abbrev pub hosted_door_answers : DoorsHosted → Query → List ℕ → DoorsHosted → Type 0
hosted_door_answers = answers_at_doors hosted_tenant_answers keeps_no_key

-- none of these doors remembers a key, nor does that of everybody else
abbrev pub RemembersNone : List TenantDoor → List (List KeyedJob) → Type 0
RemembersNone doors keys = keys ≡ replicate (length doors + 1) []

-- a new desk for each of these doors' tenants, with its first credit, and one for everybody else; this
-- runner with no job, within the limits of each; and doors that remember no key
abbrev pub BeginsAtDesks : {R : Type 0} → List TenantDoor → Bounds → R
    → Tenancy × BehindDoors (KeptRunner (LineLimitedRunner R)) → Type 0
BeginsAtDesks doors bounds runner begun =
    IsFirstTenancy (door_credits doors) begun.0
    × (begun.1.handler ≡ record {
      runner = new_by_line (door_limits bounds.tenant_jobs doors) runner;
      keep = bounds.keep;
    }) × RemembersNone doors begun.1.keys

-- So many connections are served, first on new desks, where tenants have their first credit, and with
-- no job. Jobs run on a pool that lasts, within the bounds.
pub record IsServingTenants (doors : List TenantDoor) (bounds : Bounds) (sessions : ℕ)
    (may_stop : Bool) (outcome : Result (Unit {0}) ServeFault) : Type 0 where
  pub first : Pool
  pub none : (first.0 ≡ []) × (first.1.entries ≡ [])
  pub begun : DoorsHosted
  pub begins : BeginsAtDesks doors bounds (record { runner = first; limit = bounds.open_jobs }) begun
  pub end : DoorsHosted
  pub serving : IsServingFrom (answers_counting hosted_door_answers) (λ s. s ≡ begun) end sessions
      may_stop outcome

-- what comes by a tenant's own door may not grant
abbrev pub GrantsByNoTenant : Passage → Type 0
GrantsByNoTenant passage = (n : ℕ) → passage.door ≡ Tenant n → passage.may_grant ≡ false

-- A server with these doors of tenants: where there is none, one desk serves all.
abbrev pub IsServingBy : List TenantDoor → Bounds → ℕ → Bool → Result (Unit {0}) ServeFault → Type 0
IsServingBy [] bounds sessions may_stop outcome = IsServing bounds sessions may_stop outcome
IsServingBy (door ∷ doors) bounds sessions may_stop outcome =
    (s : IsServingTenants (door ∷ doors) bounds sessions may_stop outcome)
    × All (λ c. GrantsByNoTenant c.passage) s.serving.closed

-- The same, and the connections are this listener's, each by a passage that it gave.
abbrev pub IsServingAt : {L : Type 0} → (L → L → Type 0) → (L → L → Type 0) → (L → Passage) → L
    → List TenantDoor → Bounds → ℕ → Bool → Result (Unit {0}) ServeFault → Type 0
IsServingAt opens fails passage_of listener [] bounds sessions may_stop outcome =
    (s : IsServing bounds sessions may_stop outcome) × AreOf opens fails listener s.serving.opened
    × All (λ c. CameBy opens passage_of c.passage) s.serving.closed
IsServingAt opens fails passage_of listener (door ∷ doors) bounds sessions may_stop outcome =
    (s : IsServingTenants (door ∷ doors) bounds sessions may_stop outcome)
    × AreOf opens fails listener s.serving.opened
    × All (λ c. CameBy opens passage_of c.passage) s.serving.closed
