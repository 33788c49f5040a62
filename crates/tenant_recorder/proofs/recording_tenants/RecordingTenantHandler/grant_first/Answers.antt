use Rattle.std.proofs.Common.{subst}
use Rattle.tenant_desks.specs.Tenancies.{Tenancy}
use Rattle.tenant_recorder.specs.Recorders.{AreRecorded, HaveForgotten}
use Rattle.tenant_recorder.specs.TenantsRecorded.{RecordedRunner}
use Rattle.tenant_recorder.proofs.EachPlace.{are_recorded}
use Rattle.tenant_recorder.proofs.Forgotten.{forgotten_noted}
use Rattle.tenant_recorder.proofs.recording_tenants.RecordingTenantHandler.grant_first.Goals as goal

pub returns-clause-records : goal.returns-clause-records
returns-clause-records g c =
    let r = c.credit_each in
    let T : RecordedRunner g.row.N.Denot g.row.Q.Denot × Tenancy → Type 0 =
    λ p. AreRecorded g.Q.RecordQueue.taken g.Q.RecordQueue.has_failed p.0.recorders r.new.recorders.items p.1.desks r.new.desks.items in
    subst T (λ k. (c.self.view_is k, c.desks.view_is k))
    (are_recorded g.Q.RecordQueue.taken g.Q.RecordQueue.has_failed c.self.inside.recorders.items r.new.recorders.items c.desks.inside.desks.items r.new.desks.items r.ensures.records)

pub returns-clause-forgotten : goal.returns-clause-forgotten
returns-clause-forgotten g c =
    let r = c.credit_each in
    let T : RecordedRunner g.row.N.Denot g.row.Q.Denot × Tenancy → Type 0 =
    λ p. HaveForgotten p.0.keep p.1.desks p.0.recorders → HaveForgotten c.self.inside.keep r.new.desks.items r.new.recorders.items in
    subst T (λ k. (c.self.view_is k, c.desks.view_is k))
    (forgotten_noted g.Q.RecordQueue.taken g.Q.RecordQueue.has_failed c.self.inside.keep c.self.inside.recorders.items r.new.recorders.items c.desks.inside.desks.items r.new.desks.items r.ensures.records)
