use Rattle.std.proofs.Common.{ap, length, refl, rules}
use Rattle.accounts.specs.Ledgers.{Ledger}
use Rattle.streams.proofs.Answered.{framed_as}
use Rattle.streams.proofs.EachForm.{to_grant, to_account, to_status, to_result}
use Rattle.server_handler.proofs.Recorded.{keyed_none, records_nothing, records_unkeyed}
use Rattle.server_handler.proofs.recorded_answers.carry_out_recorded.Goals as goal

pub returns-in-Grant-clause-done : goal.returns-in-Grant-clause-done
returns-in-Grant-clause-done g c = framed_as c.answer_grant_recorded-reply.result _ _
    (λ told h. to_grant g.N.Runner.starts g.N.Runner.looks _ _ _ _ c.args.request told c.in-Grant.tenant c.in-Grant.amount _ c.in-Grant.is (search rules) refl h)
    c.answer_grant_recorded-reply.ensures.done

pub returns-in-Account-clause-done : goal.returns-in-Account-clause-done
returns-in-Account-clause-done g c = framed_as c.answer_account.result _ _
    (λ told h. to_account g.N.Runner.starts g.N.Runner.looks _ _ _ _ c.args.request told c.in-Account.tenant _ c.in-Account.is (search rules) refl refl h)
    c.answer_account.ensures

pub returns-in-Submit-clause-done : goal.returns-in-Submit-clause-done
returns-in-Submit-clause-done g c = framed_as c.answer_submit_recorded.result.1 _ _
    (λ told h. rw c.in-Submit.is h)
    c.answer_submit_recorded.ensures.done

pub returns-in-Status-clause-done : goal.returns-in-Status-clause-done
returns-in-Status-clause-done g c = framed_as c.answer_status.result _ _
    (λ told h. to_status g.N.Runner.starts g.N.Runner.looks _ _ _ _ c.args.request told c.in-Status.job c.in-Status.is refl h)
    c.answer_status.ensures.done

pub returns-in-Result-clause-done : goal.returns-in-Result-clause-done
returns-in-Result-clause-done g c = framed_as c.answer_result.result _ _
    (λ told h. to_result g.N.Runner.starts g.N.Runner.looks _ _ _ _ c.args.request told c.in-Result.job c.in-Result.is c.answer_result.ensures.same refl h)
    c.answer_result.ensures.told

pub returns-in-Account-clause-records : goal.returns-in-Account-clause-records
returns-in-Account-clause-records g c =
    records_unkeyed g.C.ChangeSink c.args.place c.args.changes.now c.args.changes.now c.args.desk.now c.args.desk.now _ (keyed_none _ c.args.desk.now c.args.desk.now refl)
    (records_nothing g.C.ChangeSink c.args.place c.args.changes.now c.args.desk.now c.args.desk.now refl)

pub returns-in-Status-clause-records : goal.returns-in-Status-clause-records
returns-in-Status-clause-records g c =
    records_unkeyed g.C.ChangeSink c.args.place c.args.changes.now c.args.changes.now c.args.desk.now c.args.desk.now _ (keyed_none _ c.args.desk.now c.args.desk.now refl)
    (records_nothing g.C.ChangeSink c.args.place c.args.changes.now c.args.desk.now c.args.desk.now refl)

pub returns-in-Result-clause-records : goal.returns-in-Result-clause-records
returns-in-Result-clause-records g c =
    let same = c.answer_result.ensures.same in
    records_unkeyed g.C.ChangeSink c.args.place c.args.changes.now c.args.changes.now c.args.desk.now c.answer_result.new.desk _ (keyed_none _ c.args.desk.now c.answer_result.new.desk (ap (λ (l : Ledger). length l.jobs) same))
    (records_nothing g.C.ChangeSink c.args.place c.args.changes.now c.args.desk.now c.answer_result.new.desk same)

pub returns-in-Grant-clause-records : goal.returns-in-Grant-clause-records
returns-in-Grant-clause-records g c =
    let r = c.answer_grant_recorded-reply in
    records_unkeyed g.C.ChangeSink c.args.place c.args.changes.now r.new.changes c.args.desk.now r.new.desk _ (keyed_none _ c.args.desk.now r.new.desk r.ensures.count) r.ensures.records
