use Rattle.std.proofs.Common.{arith}
use Rattle.bpfjobs_cli.specs.declared.tenant_text.Delimiter.TheVariants.{LineEnd}
use Rattle.bpfjobs_cli.specs.TenantLines.{said_by}
use Rattle.bpfjobs_cli.specs.Tenants.{tenants_in}
use Rattle.bpfjobs_cli.proofs.EnteredLemmas.{all_apart}
use Rattle.bpfjobs_cli.proofs.TenantLemmas.{shorter}
use Rattle.bpfjobs_cli.proofs.TurnLemmas.{is_none, is_some, line_last, line_next, line_wrong}
use Rattle.bpfjobs_cli.proofs.tenants.with_lines.Goals as goal

pub returns-in-Err-clause-err : goal.returns-in-Err-clause-err
returns-in-Err-clause-err c =
    let told = line_wrong _ (tenants_in c.loop-tenants.tenants.items) c.loop-tenants.number c.loop-tenants.rest.now c.cut_at.result.0.now c.cut_at.result.1.now (said_by c.said_by_line.result) c.loop-tenants.invariant.same
    c.cut_at.ensures.front c.cut_at.ensures.back c.said_by_line.ensures c.in-Err.fault c.in-Err.ensures.err in
    rw c.wrong_at.ensures told

pub returns-then-is_empty-clause-ok : goal.returns-then-is_empty-clause-ok
returns-then-is_empty-clause-ok c =
    line_last _ (tenants_in c.loop-tenants.tenants.items) c.loop-tenants.number c.loop-tenants.rest.now c.cut_at.result.0.now c.cut_at.result.1.now (said_by c.said_by_line.result) c.loop-tenants.invariant.same
    c.cut_at.ensures.front c.cut_at.ensures.back c.said_by_line.ensures (tenants_in c.in-Ok.tenants.items) c.in-Ok.ensures.ok (is_none _ c.if-is_empty.ensures)

pub returns-then-is_empty-clause-apart : goal.returns-then-is_empty-clause-apart
returns-then-is_empty-clause-apart c = λ are.
    all_apart _ _ _ _ are (line_last _ (tenants_in c.loop-tenants.tenants.items) c.loop-tenants.number c.loop-tenants.rest.now c.cut_at.result.0.now c.cut_at.result.1.now (said_by c.said_by_line.result) c.loop-tenants.invariant.same
    c.cut_at.ensures.front c.cut_at.ensures.back c.said_by_line.ensures (tenants_in c.in-Ok.tenants.items) c.in-Ok.ensures.ok (is_none _ c.if-is_empty.ensures))

pub loop-tenants-smaller : goal.loop-tenants-smaller
loop-tenants-smaller c =
    let less = shorter LineEnd c.loop-tenants.rest.now c.cut_at.result.1.now c.split_at.result.1.now c.cut_at.ensures.back (is_some _ c.if-is_empty.ensures) c.split_at.ensures.back in
    omega (arith, less)

pub loop-tenants-preserved : goal.loop-tenants-preserved
loop-tenants-preserved c =
    let some = is_some _ c.if-is_empty.ensures in
    let less = shorter LineEnd c.loop-tenants.rest.now c.cut_at.result.1.now c.split_at.result.1.now c.cut_at.ensures.back some c.split_at.ensures.back in
    record {
      same = line_next _ (tenants_in c.loop-tenants.tenants.items) c.loop-tenants.number c.loop-tenants.rest.now c.cut_at.result.0.now c.cut_at.result.1.now (said_by c.said_by_line.result) c.loop-tenants.invariant.same
          c.cut_at.ensures.front c.cut_at.ensures.back c.said_by_line.ensures (tenants_in c.in-Ok.tenants.items) c.in-Ok.ensures.ok c.split_at.result.1.now some c.split_at.ensures.back;
      count = omega (arith, less, c.loop-tenants.invariant.count);
    }
