use Rattle.std.proofs.Common.{◌≡◌, ℕ, Option, String, Global, map, string_bytes, take}
use Rattle.job_server.specs.TenantServing.{door_credits}
use Rattle.job_server.proofs.tenant_door.credits_of.Given as goal

-- the first doors' names and credits
abbrev pub invariant-loop-door : goal.invariant-loop-door
invariant-loop-door l =
    map (λ (x : String Global × Option ℕ). (string_bytes x.0, x.1)) l.tenants.items ≡ door_credits (take l.door-index l.doors)
