use Rattle.std.proofs.Common.{◌≡◌, ◌∷◌, ℕ, List, Option, map, string_bytes, take}
use Rattle.accounts.specs.Ledgers.{Ledger}
use Rattle.tenant_desks.specs.Tenancies.{AreFirstDesks, fresh_desk}
use Rattle.tenant_desks.proofs.FirstDesks.{said_of}
use Rattle.tenant_desks.proofs.desks.TenantDesks.first.Given as goal

-- the names and the desks of the first tenants
abbrev pub invariant-loop-tenant : goal.invariant-loop-tenant
invariant-loop-tenant l =
    (map string_bytes l.names.items ≡ map (λ (x : List ℕ × Option ℕ). x.0) (said_of (take l.tenant-index l.tenants)))
    × ((firsts : List Ledger) × AreFirstDesks (said_of (take l.tenant-index l.tenants)) firsts × (l.desks.items ≡ fresh_desk ∷ firsts))
