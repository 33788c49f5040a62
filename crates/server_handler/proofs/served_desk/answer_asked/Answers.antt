use Rattle.std.proofs.Common.{[], append-nil, sym, ◌∙◌}
use Rattle.streams.specs.Prepared.{asked_of}
use Rattle.server_state.specs.States.{steps_of}
use Rattle.server_handler.proofs.Recorded.{keyed_behind, records_both, records_keyed}
use Rattle.server_handler.proofs.Replied.{asked_stays, ledger_replies}
use Rattle.server_handler.proofs.served_desk.answer_asked.Goals as goal

pub returns-clause-place : goal.returns-clause-place
returns-clause-place g c =
    let t = c.reply_recorded-told in
    asked_stays (steps_of g.N.JobRunner) c.args.ledger.now c.args.runner.now (asked_of c.args.request) _ t.new.desk t.new.runner t.ensures.done.was

pub returns-clause-replies : goal.returns-clause-replies
returns-clause-replies g c =
    let t = c.reply_recorded-told in
    ledger_replies (steps_of g.N.JobRunner) c.args.keep c.args.ledger.now c.args.runner.now (asked_of c.args.request) t.result.1 t.new.desk t.new.runner c.keep_recorded.new.desk
    c.requires.asked t.ensures.done c.keep_recorded.ensures.kept

pub returns-clause-records : goal.returns-clause-records
returns-clause-records g c =
    let t = c.reply_recorded-told in
    let k = c.keep_recorded in
    records_keyed g.C.ChangeSink c.args.runner.now.desk c.args.changes.now k.new.changes c.args.ledger.now k.new.desk _ _ (keyed_behind _ c.args.ledger.now t.new.desk k.new.desk k.ensures.count ∙ sym (append-nil _))
    (records_both g.C.ChangeSink c.args.runner.now.desk c.args.changes.now t.new.changes k.new.changes c.args.ledger.now t.new.desk k.new.desk _ [] t.ensures.records k.ensures.records)
