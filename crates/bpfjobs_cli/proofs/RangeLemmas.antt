-- The numbers of a command that words say are in range, and its tenants apart.
use Rattle.std.proofs.Common.{◌≤◌, ◌==◌, ℕ, Bool, cond, true, false, List, [], Option, Some, None, codes, sym, subst, arith}
use Rattle.std.specs.Prelude.{IfSome}
use Rattle.clap.specs.Words.{Row, Text}
use Rattle.bpfjobs_cli.specs.declared.commands.Command.{Command}
use Rattle.bpfjobs_cli.specs.declared.commands.Command.TheVariants.{Assemble, Disassemble, Verify, Play, Run, Serve, Journal, Ask, Job, Check}
use Rattle.bpfjobs_cli.specs.declared.commands.Endpoint.{Endpoint}
use Rattle.bpfjobs_cli.specs.declared.commands.Endpoint.TheVariants.{Port, Socket}
use Rattle.bpfjobs_cli.specs.declared.tenant_socket.TenantSocket.{TenantSocket}
use Rattle.bpfjobs_cli.specs.declared.tenant_socket.TenantWords.{TenantWords}
use Rattle.bpfjobs_cli.specs.Commands.{AreTenantsOf, IsCommandOf, IsEndpointInRange, IsEndpointOf, IsInRange, IsMaybeNumber, sessions_said, tenant_words}
use Rattle.bpfjobs_cli.specs.Tenants.{AreTenants, tenants_in, words_said}
use Rattle.bpfjobs_cli.proofs.EnteredLemmas.{all_apart, none_apart}

tenants_range : (rows : List Row) (endpoint : Endpoint) (tenants : TenantWords) → AreTenantsOf rows endpoint tenants → AreTenants (tenants_in tenants.tenants.items)
tenants_range rows (Port port) tenants are = subst (λ (ts : List TenantSocket). AreTenants (tenants_in ts)) (sym are.2) none_apart
tenants_range rows (Socket path grants) tenants are = all_apart [] 0 (words_said (tenant_words rows)) (tenants_in tenants.tenants.items) none_apart are.0

between : (low high : ℕ) (rows : List Row) (id : Text) (said : Option ℕ) → IsMaybeNumber rows id low high said → IfSome said (λ n. (low ≤ n) × (n ≤ high))
between low high rows id (Some n) number = (number.least, number.most)
between low high rows id None number = tt

jobs_range : (rows : List Row) (endpoint : Endpoint) (tenants : TenantWords) → AreTenantsOf rows endpoint tenants → IfSome tenants.open_jobs (λ n. (1 ≤ n) × (n ≤ 1000000))
jobs_range rows (Port port) tenants are = between 1 1000000 rows (codes "tenant-jobs") tenants.open_jobs are.1.0
jobs_range rows (Socket path grants) tenants are = between 1 1000000 rows (codes "tenant-jobs") tenants.open_jobs are.2.0

endpoint_range : (rows : List Row) (endpoint : Endpoint) → IsEndpointOf rows endpoint → IsEndpointInRange endpoint
endpoint_range rows (Port port) is = (is.0.least, is.0.most)
endpoint_range rows (Socket path grants) is = (is.3, is.4)

said_range : (rows : List Row) (id : Text) (said : Option ℕ) (clients : ℕ) → IsMaybeNumber rows id 1 1000000 said → IfSome (sessions_said said clients) (λ n. (1 ≤ n) × (n ≤ 1000000))
said_range rows id (Some n) clients number = (number.least, number.most)
said_range rows id None clients number = go (clients == 1)
  where
    go : (b : Bool) → IfSome (cond b (Some 1) None) (λ n. (1 ≤ n) × (n ≤ 1000000))
    go true = (omega arith, omega arith)
    go false = tt

pub command_range : (name : Text) (rows : List Row) (command : Command) → IsCommandOf name rows command → IsInRange command
command_range name rows Assemble is = tt
command_range name rows Disassemble is = tt
command_range name rows (Verify need) is = tt
command_range name rows Play is = tt
command_range name rows (Run workers) is = (is.1.least, is.1.most)
command_range name rows (Serve serve) is = record {
  endpoint = endpoint_range rows serve.endpoint is.1.endpoint;
  tenants = tenants_range rows serve.endpoint serve.tenants is.1.tenants;
  tenant_jobs = jobs_range rows serve.endpoint serve.tenants is.1.tenants;
  workers = (is.1.options.workers.least, is.1.options.workers.most);
  sessions = subst (λ (o : Option ℕ). IfSome o (λ n. (1 ≤ n) × (n ≤ 1000000))) (sym is.1.options.sessions.2)
      (said_range rows _ is.1.options.sessions.0 serve.options.clients is.1.options.sessions.1);
  clients = (is.1.options.clients.least, is.1.options.clients.most);
  timeout = is.1.options.timeout.most;
  open_jobs = is.1.options.open_jobs.most;
  keep = is.1.options.keep.most;
  keep_bytes = is.1.options.keep_bytes.most;
}
command_range name rows (Journal path checks) is = tt
command_range name rows (Ask ask) is = (endpoint_range rows ask.endpoint is.1.endpoint, is.1.wait.most)
command_range name rows (Job job) is = tt
command_range name rows (Check job result) is = tt
