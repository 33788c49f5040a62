use Rattle.std.proofs.Common.{◌≡◌, ◌+◌}
use Rattle.tenant_recorder.specs.Recorders.{EachRecorder, IsRecordedPlainly}
use Rattle.tenant_recorder.proofs.Credited.{AreCreditedTo, tenants_of}
use Rattle.tenant_recorder.proofs.desk_credits.credit_each.Given as goal

-- the first tenants have their credit, and it is recorded
abbrev pub invariant-loop-tenant : goal.invariant-loop-tenant
invariant-loop-tenant g l = record {
  place : l.place ≡ l.tenant-index + 1;
  credited : AreCreditedTo l.tenant-index (tenants_of l.tenants) l.fn.desks.items l.desks.items;
  records : EachRecorder (IsRecordedPlainly g.Q.RecordQueue.taken g.Q.RecordQueue.has_failed) l.fn.recorders.items l.recorders.items l.fn.desks.items l.desks.items;
}
