use Rattle.std.proofs.Common.{◌<◌, ℕ, length, string_bytes, List, Option, String, Global, refl, rules, arith}
use Rattle.std.proofs.lemmas.List.{length-map}
use Rattle.std.proofs.lemmas.Option.{slice_get_read}
use Rattle.tenant_recorder.proofs.Credited.{all_credited, get_tenant, none_credited, one_credited, tenants_of}
use Rattle.tenant_recorder.proofs.EachPlace.{noted_at, noted_nothing, noted_then}
use Rattle.tenant_recorder.proofs.desk_credits.credit_each.Goals as goal

pub loop-tenant-init : goal.loop-tenant-init
loop-tenant-init g c = record {
  place = refl;
  credited = none_credited (tenants_of c.args.tenants.now) c.args.desks.now.items;
  records = noted_nothing g.Q.RecordQueue.taken g.Q.RecordQueue.has_failed c.args.recorders.now.items c.args.desks.now.items;
}

pub returns-in_err-credit_at-clause-records : goal.returns-in_err-credit_at-clause-records
returns-in_err-credit_at-clause-records g c =
    let at = c.loop-tenant in
    let next = at.invariant.place in
    let desks = at.invariant.records.desks in
    let recorders = at.invariant.records.recorders in
    let paired = c.requires.paired in
    let tenants = c.requires.tenants in
    let less = c.loop-tenant-test.true in
    let within : at.place < length at.desks.items = omega (arith, next, desks, tenants, less) in
    let within_too : at.place < length at.recorders.items = omega (arith, next, desks, recorders, paired, tenants, less) in
    noted_then g.Q.RecordQueue.taken g.Q.RecordQueue.has_failed c.args.recorders.now.items at.recorders.items _ c.args.desks.now.items at.desks.items _ at.invariant.records
    (noted_at g.Q.RecordQueue.taken g.Q.RecordQueue.has_failed at.recorders.items at.desks.items at.place c.index_mut-in-loop-tenant.result.now c.credit_at.new.recorder c.index_mut.result.now c.credit_at.new.desk
    (slice_get_read at.recorders.items (length at.recorders.items) at.place c.index_mut-in-loop-tenant.result.now refl within_too c.index_mut-in-loop-tenant.ensures.value)
    (slice_get_read at.desks.items (length at.desks.items) at.place c.index_mut.result.now refl within c.index_mut.ensures.value)
    c.credit_at.ensures.records)

pub loop-tenant-preserved : goal.loop-tenant-preserved
loop-tenant-preserved g c =
    let at = c.loop-tenant in
    let next = at.invariant.place in
    let desks = at.invariant.records.desks in
    let recorders = at.invariant.records.recorders in
    let paired = c.requires.paired in
    let tenants = c.requires.tenants in
    let less = c.loop-tenant-test.true in
    let within : at.place < length at.desks.items = omega (arith, next, desks, tenants, less) in
    let within_too : at.place < length at.recorders.items = omega (arith, next, desks, recorders, paired, tenants, less) in
    let here = slice_get_read at.desks.items (length at.desks.items) at.place c.index_mut.result.now refl within c.index_mut.ensures.value in
    record {
      place = omega (arith, next);
      credited = one_credited at.tenant-index at.place (tenants_of c.args.tenants.now) (string_bytes c.tenant-item.result.0, c.tenant-item.result.1) c.args.desks.now.items at.desks.items c.index_mut.result.now c.credit_at.new.desk
          next (get_tenant c.args.tenants.now at.tenant-index c.tenant-item.result (slice_get_read c.args.tenants.now (length c.args.tenants.now) at.tenant-index c.tenant-item.result refl less c.tenant-item.is)) here (search rules) at.invariant.credited;
      records = noted_then g.Q.RecordQueue.taken g.Q.RecordQueue.has_failed c.args.recorders.now.items at.recorders.items _ c.args.desks.now.items at.desks.items _ at.invariant.records
          (noted_at g.Q.RecordQueue.taken g.Q.RecordQueue.has_failed at.recorders.items at.desks.items at.place c.index_mut-in-loop-tenant.result.now c.credit_at.new.recorder c.index_mut.result.now c.credit_at.new.desk
          (slice_get_read at.recorders.items (length at.recorders.items) at.place c.index_mut-in-loop-tenant.result.now refl within_too c.index_mut-in-loop-tenant.ensures.value)
          here c.credit_at.ensures.records);
    }

pub returns-clause-credited : goal.returns-clause-credited
returns-clause-credited g c =
    let over = c.loop-tenant-test.false in
    let count = length-map {B = List ℕ × Option ℕ} c.args.tenants.now (λ (x : String Global × Option ℕ). (string_bytes x.0, x.1)) in
    all_credited c.loop-tenant.tenant-index (tenants_of c.args.tenants.now) c.args.desks.now.items c.loop-tenant.desks.items (omega (arith, over, count)) c.loop-tenant.invariant.credited
