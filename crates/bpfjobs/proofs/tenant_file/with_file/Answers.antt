use Rattle.std.proofs.Common.{◌≡◌, [], List, Ok, ap}
use Rattle.std.proofs.lemmas.List.{append-nil}
use Rattle.bpfjobs_cli.specs.TenantLines.{line_says}
use Rattle.bpfjobs_cli.specs.Tenants.{Entered, NamedTenant, entered, fault_said, lines_said}
use Rattle.bpfjobs.proofs.tenant_file.with_file.Goals as goal
use Rattle.bpfjobs.proofs.tenant_file.with_file.Goals.{in-Some+in-Some-contents+in-Ok, in-None}

-- a text without lines names no tenant
no_lines : (ts : List NamedTenant) → ◌≡◌ {A = Entered} (entered ts 1 (lines_said [])) (Ok ts)
unfolding line_says fault_said
no_lines ts = ap (λ (all : List NamedTenant). Ok all) (append-nil ts)

pub returns-clause-lines : goal.returns-clause-lines
returns-clause-lines g c = elim c.match-file.branch [
  | in-Some+in-Some-contents+in-Ok w ↦ (w.deref-in-Some.result.now, rw w.tenants-is w.in-Ok.ensures.ok)
  | in-None w ↦ ([], rw w.tenants-is (no_lines _))
]
