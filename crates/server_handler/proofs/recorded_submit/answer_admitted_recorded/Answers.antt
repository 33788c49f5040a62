use Rattle.std.proofs.Common.{Ok, ◌∙◌, [], append-nil, sym, subst, rules}
use Rattle.sessions.specs.Grammar.{Asked}
use Rattle.streams.specs.Refusing.{TellsRefusal}
use Rattle.streams.proofs.Answered.{framed_as, taken_if, submits_by}
use Rattle.streams.proofs.EachForm.{to_admitted}
use Rattle.server_handler.proofs.Recorded.{keyed_behind, records_both, records_keyed}
use Rattle.server_handler.proofs.recorded_submit.answer_admitted_recorded.Goals as goal

pub start_recorded-requires-clause-last : goal.start_recorded-requires-clause-last
start_recorded-requires-clause-last g c =
    let t = c.take_recorded-taken in
    taken_if t.result _ t.new.desk _ _ t.ensures.taken t.ensures.number

pub returns-clause-done : goal.returns-clause-done
returns-clause-done g c =
    let t = c.take_recorded-taken in
    let s = c.into_parts-tenant.result in
    let admission = c.record_ahead-admission.ensures.admission s.buffer.value.items c.into_parts-tenant.ensures.admission c.into_parts-tenant.ensures.copy in
    framed_as c.start_recorded.result.1 _ _
    (λ told h. to_admitted g.N.Runner.starts g.N.Runner.looks _ _ _ _ told _ s.tenant s.programs.items s.credit s.buffer.value.items _ c.into_parts-tenant.ensures.asked (search rules)
    (submits_by g.N.Runner.starts t.result _ t.new.desk _ _ s.programs.items s.credit s.buffer.value.items t.ensures.taken t.ensures.number
    (t.ensures.admitted _ s.programs.items s.buffer.value.items admission)
    (t.ensures.refused _ s.programs.items s.buffer.value.items admission) t.ensures.unchanged told _ _ h))
    c.start_recorded.ensures.done

pub returns-clause-refusal : goal.returns-clause-refusal
returns-clause-refusal g c =
    subst (λ (a : Asked). TellsRefusal c.start_recorded.new.desk (Ok a) c.start_recorded.result.0 c.start_recorded.result.1) (sym c.into_parts-tenant.ensures.asked) c.start_recorded.ensures.refusal

pub returns-clause-records : goal.returns-clause-records
returns-clause-records g c =
    let t = c.take_recorded-taken in
    let s = c.into_parts-tenant.result in
    let a = c.record_ahead-admission in
    let admission = a.ensures.admission s.buffer.value.items c.into_parts-tenant.ensures.admission c.into_parts-tenant.ensures.copy in
    let r = c.start_recorded in
    records_keyed g.C.ChangeSink c.args.place c.args.changes.now r.new.changes c.args.desk.now r.new.desk _ _ (keyed_behind _ c.args.desk.now t.new.desk r.new.desk r.ensures.count ∙ sym (append-nil _))
    (records_both g.C.ChangeSink c.args.place c.args.changes.now t.new.changes r.new.changes c.args.desk.now t.new.desk r.new.desk _ []
    (records_both g.C.ChangeSink c.args.place c.args.changes.now a.new.changes t.new.changes c.args.desk.now c.args.desk.now t.new.desk [] _
    (a.ensures.records c.args.desk.now) (t.ensures.records _ s.programs.items s.buffer.value.items admission))
    r.ensures.records)
