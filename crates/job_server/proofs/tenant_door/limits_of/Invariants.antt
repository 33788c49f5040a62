use Rattle.std.proofs.Common.{◌≡◌, ◌∷◌, None, map, take}
use Rattle.job_server.specs.declared.tenant_door.TenantDoor.{TenantDoor}
use Rattle.job_server.proofs.tenant_door.limits_of.Given as goal

-- the limits of the first doors
abbrev pub invariant-loop-door : goal.invariant-loop-door
invariant-loop-door l =
    l.own.items ≡ None ∷ map (λ (d : TenantDoor). d.open_jobs) (take l.door-index l.doors)
