use Rattle.std.proofs.Common.{◌≡◌, map, string_bytes, take}
use Rattle.job_server.specs.declared.tenant_door.TenantDoor.{TenantDoor}
use Rattle.bpfjobs_cli.specs.Tenants.{tenants_in}
use Rattle.bpfjobs.proofs.serving.doors_of.Given as goal

-- the doors of the first tenants
abbrev pub invariant-loop-tenant : goal.invariant-loop-tenant
invariant-loop-tenant l =
    map (λ (d : TenantDoor). (string_bytes d.name, string_bytes d.path, record { open_jobs = d.open_jobs; credit = d.credit })) l.doors.items ≡ tenants_in (take l.tenant-index l.tenants)
