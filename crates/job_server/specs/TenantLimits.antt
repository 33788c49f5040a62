-- How many jobs each tenant may have open.
use Rattle.std.specs.Prelude.{ℕ, List, ◌∷◌, map, None}
use Rattle.job_pools.specs.LineLimiting.{LimitsByLine}
use Rattle.job_server.specs.declared.tenant_door.TenantDoor.{TenantDoor}

-- One limit for all desks, and those that some tenants have of their own: that of the desk of
-- everybody else, which is the first, is the one for all.
abbrev pub door_limits : ℕ → List TenantDoor → LimitsByLine
door_limits all doors =
    record { all = all; own = None ∷ map (λ (d : TenantDoor). d.open_jobs) doors }
