use Rattle.std.proofs.Common.{◌≡◌, ◌≤◌, ◌+◌, length}
use Rattle.bpfjobs_cli.specs.Tenants.{entered, lines_said, tenants_in}
use Rattle.bpfjobs_cli.proofs.tenants.with_lines.Given as goal

abbrev pub invariant-loop-tenants : goal.invariant-loop-tenants
invariant-loop-tenants l = record {
  same : entered (tenants_in l.fn.before.items) 1 (lines_said l.text) ≡ entered (tenants_in l.tenants.items) l.number (lines_said l.rest);
  count : l.number + length l.rest ≤ length l.text + 1;
}

abbrev pub decreases-loop-tenants : goal.decreases-loop-tenants
decreases-loop-tenants l = length l.rest
