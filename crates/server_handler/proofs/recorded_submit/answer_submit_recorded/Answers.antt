use Rattle.std.proofs.Common.{Ok, ap, length, refl, subst, inr, rules}
use Rattle.accounts.specs.Ledgers.{Ledger}
use Rattle.sessions.specs.Grammar.{Asked}
use Rattle.streams.specs.Answering.{Replies}
use Rattle.streams.specs.Refusing.{TellsRefusal}
use Rattle.streams.proofs.Answered.{framed_as}
use Rattle.streams.proofs.EachForm.{to_admitted}
use Rattle.server_handler.proofs.Recorded.{keyed_none, records_nothing, records_unkeyed}
use Rattle.server_handler.proofs.recorded_submit.answer_submit_recorded.Goals as goal

pub returns-in-Ok-clause-done : goal.returns-in-Ok-clause-done
returns-in-Ok-clause-done g c = framed_as c.answer_admitted_recorded.result.1 _ _
    (λ told h. subst (λ (a : Asked). Replies g.N.Runner.starts g.N.Runner.looks c.args.desk.now c.args.runner.now (Ok a) told c.answer_admitted_recorded.new.desk c.answer_admitted_recorded.new.runner) c.admit-submit.ensures h)
    c.answer_admitted_recorded.ensures.done

pub returns-in-Ok-clause-refusal : goal.returns-in-Ok-clause-refusal
returns-in-Ok-clause-refusal g c =
    let r = c.answer_admitted_recorded in
    subst (λ (a : Asked). TellsRefusal r.new.desk (Ok a) r.result.0 r.result.1) c.admit-submit.ensures r.ensures.refusal

pub returns-in-Err-clause-done : goal.returns-in-Err-clause-done
returns-in-Err-clause-done g c = framed_as c.answer_taken.result.1 _ _
    (λ told h. to_admitted g.N.Runner.starts g.N.Runner.looks _ _ _ _ told _ c.args.tenant c.args.programs.items c.args.credit c.args.buffer.items _ refl (search rules)
    (inr (record {
      fault = c.in-Err.fault;
      why = c.in-Err.ensures.refused c.args.programs.items c.args.buffer.items;
      same = h.0;
      same_runner = h.1;
      tells = h.2;
    })))
    c.answer_taken.ensures.done

pub returns-in-Err-clause-records : goal.returns-in-Err-clause-records
returns-in-Err-clause-records g c =
    let same = c.answer_taken.ensures.done.was.0 in
    records_unkeyed g.C.ChangeSink c.args.place c.args.changes.now c.args.changes.now c.args.desk.now c.answer_taken.new.desk _ (keyed_none _ c.args.desk.now c.answer_taken.new.desk (ap (λ (l : Ledger). length l.jobs) same))
    (records_nothing g.C.ChangeSink c.args.place c.args.changes.now c.args.desk.now c.answer_taken.new.desk same)
