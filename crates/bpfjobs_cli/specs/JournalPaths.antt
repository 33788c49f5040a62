-- The paths of a server's journals.
use Rattle.std.specs.Prelude.{ℕ, List, ◌∷◌, ◌++◌, codes, map}
use Rattle.bpfjobs_cli.specs.Tenants.{NamedTenant}

-- the path of a tenant's journal, where FILE is that of everybody else: FILE.NAME
abbrev pub tenant_journal_path : List ℕ → List ℕ → List ℕ
tenant_journal_path file name = file ++ codes "." ++ name

-- the paths of a server's journals: FILE, and behind it that of each of these tenants
abbrev pub paths_beside : List ℕ → List NamedTenant → List (List ℕ)
paths_beside file tenants =
    file ∷ map (λ (t : NamedTenant). tenant_journal_path file t.0) tenants
