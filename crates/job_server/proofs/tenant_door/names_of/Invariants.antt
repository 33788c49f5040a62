use Rattle.std.proofs.Common.{◌≡◌, map, string_bytes, take}
use Rattle.job_server.specs.declared.tenant_door.TenantDoor.{TenantDoor}
use Rattle.job_server.proofs.tenant_door.names_of.Given as goal

-- the names of the first doors
abbrev pub invariant-loop-door : goal.invariant-loop-door
invariant-loop-door l =
    map string_bytes l.names.items ≡ map (λ (d : TenantDoor). string_bytes d.name) (take l.door-index l.doors)
