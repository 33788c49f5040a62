use Rattle.std.proofs.Common.{rules}
use Rattle.bpfjobs_cli.specs.declared.tenant_socket.TenantSocket.{TenantSocket}
use Rattle.bpfjobs_cli.proofs.EnteredLemmas.{pushed_tenant, refuses_bytes, refuses_tenant, takes_tenant}
use Rattle.bpfjobs_cli.proofs.tenants.with_tenant.Goals as goal

pub returns-in-None-clause-err : goal.returns-in-None-clause-err
returns-in-None-clause-err c = refuses_bytes _ c.args.name.now c.args.path.now c.args.settings (search rules)

pub returns-in-Some-fault_beside-clause-err : goal.returns-in-Some-fault_beside-clause-err
returns-in-Some-fault_beside-clause-err c = refuses_tenant _ c.args.name.now c.args.path.now c.args.settings c.in-Some-fault_beside.fault (search rules) (search rules)

pub returns-clause-ok : goal.returns-clause-ok
returns-clause-ok c =
    let one : TenantSocket = record { name = c.in_ok-from_str.field-0; path = c.in_ok-from_str-2.field-0; settings = c.args.settings } in
    let more = pushed_tenant c.args.tenants.items c.push_reserved.new.self.items one c.args.name.now c.args.path.now (search rules) (search rules) (search rules) in
    takes_tenant _ c.args.name.now c.args.path.now c.args.settings _ (search rules) (search rules) more
