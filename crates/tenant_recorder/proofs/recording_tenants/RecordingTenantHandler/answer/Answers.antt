use Rattle.std.proofs.Common.{ℕ, List, length, map, string_bytes, IfOk, None, OnErr, option_map, sym, ap, subst, ◌∙◌}
use Rattle.streams.specs.Prepared.{asked_of}
use Rattle.shared_desk.specs.Histories.{Query}
use Rattle.tenant_desks.specs.Tenancies.{Tenancy}
use Rattle.tenant_recorder.specs.TenantsRecorded.{RecordedRunner, keeps_recorded_key, named_answers_recorded}
use Rattle.tenant_recorder.proofs.KeyedAt.{keyed_nowhere}
use Rattle.tenant_recorder.proofs.Handled.{answered_err, answered_ok, apart_err, apart_ok}
use Rattle.tenant_recorder.proofs.recording_tenants.RecordingTenantHandler.answer.Goals as goal

pub returns-then-len-clause-ok : goal.returns-then-len-clause-ok
returns-then-len-clause-ok g c =
    apart_ok g.N.Runner.starts g.N.Runner.looks g.N.Runner.takes g.Q.RecordQueue.taken g.Q.RecordQueue.has_failed (record { passage = c.args.passage; asked = asked_of c.args.request; beyond = None })
    (c.args.desk.now, c.args.self.now) c.refuse.result
    (λ same. c.if-len.true (c.len.ensures ∙ c.self.inside.recorders.ok.0 ∙ ap (λ (v : RecordedRunner g.row.N.Denot g.row.Q.Denot). length v.recorders) c.self.view_is ∙ same
    ∙ sym (c.len-2.ensures ∙ c.desk.inside.desks.ok.0 ∙ ap (λ (v : Tenancy). length v.desks) c.desk.view_is)))

pub returns-then-len-clause-err : goal.returns-then-len-clause-err
returns-then-len-clause-err g c =
    apart_err g.N.Runner.starts g.N.Runner.looks g.N.Runner.takes g.Q.RecordQueue.taken g.Q.RecordQueue.has_failed (record { passage = c.args.passage; asked = asked_of c.args.request; beyond = None })
    (c.args.desk.now, c.args.self.now) c.refuse.result
    (λ same. c.if-len.true (c.len.ensures ∙ c.self.inside.recorders.ok.0 ∙ ap (λ (v : RecordedRunner g.row.N.Denot g.row.Q.Denot). length v.recorders) c.self.view_is ∙ same
    ∙ sym (c.len-2.ensures ∙ c.desk.inside.desks.ok.0 ∙ ap (λ (v : Tenancy). length v.desks) c.desk.view_is)))

pub returns-clause-ok : goal.returns-clause-ok
returns-clause-ok g c =
    let a = c.answer_among-refusal in
    let query : Query = record { passage = c.args.passage; asked = asked_of c.args.request; beyond = None } in
    let T : Tenancy × RecordedRunner g.row.N.Denot g.row.Q.Denot → Type 0 =
    λ s. IfOk a.result.1 (λ reply. named_answers_recorded g.N.Runner.starts g.N.Runner.looks g.N.Runner.takes g.Q.RecordQueue.taken g.Q.RecordQueue.has_failed s query reply (
      record { names = map string_bytes c.desk.inside.names.items; desks = a.new.desks.items },
      record { runner = a.new.runner.runner; keep = c.self.inside.keep; recorders = a.new.recorders.items },
    )) in
    subst T (λ k. (c.desk.view_is k, c.self.view_is k))
    (answered_ok g.N.Runner.starts g.N.Runner.looks g.N.Runner.takes g.Q.RecordQueue.taken g.Q.RecordQueue.has_failed query c.self.inside.keep c.deref.result.now c.desk.inside.names.items c.deref.ensures.value
    c.desk.inside.desks.items a.new.desks.items c.self.inside.runner.runner a.new.runner.runner c.self.inside.recorders.items a.new.recorders.items a.ensures.forgotten a.ensures.records a.result.1 a.ensures.ok)

pub returns-clause-err : goal.returns-clause-err
returns-clause-err g c =
    let a = c.answer_among-refusal in
    let query : Query = record { passage = c.args.passage; asked = asked_of c.args.request; beyond = None } in
    let T : Tenancy × RecordedRunner g.row.N.Denot g.row.Q.Denot → Type 0 =
    λ s. OnErr a.result.1 ((reply : List ℕ) × named_answers_recorded g.N.Runner.starts g.N.Runner.looks g.N.Runner.takes g.Q.RecordQueue.taken g.Q.RecordQueue.has_failed s query reply (
      record { names = map string_bytes c.desk.inside.names.items; desks = a.new.desks.items },
      record { runner = a.new.runner.runner; keep = c.self.inside.keep; recorders = a.new.recorders.items },
    )) in
    subst T (λ k. (c.desk.view_is k, c.self.view_is k))
    (answered_err g.N.Runner.starts g.N.Runner.looks g.N.Runner.takes g.Q.RecordQueue.taken g.Q.RecordQueue.has_failed query c.self.inside.keep c.deref.result.now c.desk.inside.names.items c.deref.ensures.value
    c.desk.inside.desks.items a.new.desks.items c.self.inside.runner.runner a.new.runner.runner c.self.inside.recorders.items a.new.recorders.items a.ensures.forgotten a.ensures.records a.result.1 a.ensures.err)

pub returns-then-len-clause-kept : goal.returns-then-len-clause-kept
returns-then-len-clause-kept g c = keyed_nowhere g.Q.RecordQueue.taken g.Q.RecordQueue.has_failed c.args.passage.door _ c.args.self.now.recorders c.args.desk.now.desks

pub returns-clause-kept : goal.returns-clause-kept
returns-clause-kept g c =
    let a = c.answer_among-refusal in
    let T : Tenancy × RecordedRunner g.row.N.Denot g.row.Q.Denot → Type 0 =
    λ s. keeps_recorded_key g.Q.RecordQueue.taken g.Q.RecordQueue.has_failed s c.args.passage.door (option_map (λ k. k.now) c.args.key) (
      record { names = map string_bytes c.desk.inside.names.items; desks = a.new.desks.items },
      record { runner = a.new.runner.runner; keep = c.self.inside.keep; recorders = a.new.recorders.items },
    ) in
    subst T (λ k. (c.desk.view_is k, c.self.view_is k)) a.ensures.kept
