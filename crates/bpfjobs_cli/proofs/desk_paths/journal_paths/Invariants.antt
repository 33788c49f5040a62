use Rattle.std.proofs.Common.{◌≡◌, map, string_bytes, take}
use Rattle.bpfjobs_cli.specs.JournalPaths.{paths_beside}
use Rattle.bpfjobs_cli.specs.Tenants.{tenants_in}
use Rattle.bpfjobs_cli.proofs.desk_paths.journal_paths.Given as goal

-- the paths for the first tenants
abbrev pub invariant-loop-tenant : goal.invariant-loop-tenant
invariant-loop-tenant l =
    map string_bytes l.paths.items ≡ paths_beside l.path (tenants_in (take l.tenant-index l.tenants))
