use Rattle.std.proofs.Common.{refl}
use Rattle.streams.proofs.EachForm.{to_none}
use Rattle.server_handler.proofs.Recorded.{keyed_none, records_nothing, records_unkeyed}
use Rattle.server_handler.proofs.recorded_answers.reply_recorded.Goals as goal

pub returns-in-AsItCame-Err-clause-done : goal.returns-in-AsItCame-Err-clause-done
returns-in-AsItCame-Err-clause-done g c = record {
  told = c.refused.result;
  was = rw c.in-AsItCame-Err.is (to_none g.N.Runner.starts g.N.Runner.looks c.args.desk.now c.args.runner.now c.in-AsItCame-Err.field-0 c.in-AsItCame-Err.code c.refused.result c.in-AsItCame-Err.field-0-is c.refused.ensures);
  frame = c.of_reply.ensures;
}

pub returns-in-AsItCame-Err-clause-records : goal.returns-in-AsItCame-Err-clause-records
returns-in-AsItCame-Err-clause-records g c =
    records_unkeyed g.C.ChangeSink c.args.place c.args.changes.now c.args.changes.now c.args.desk.now c.args.desk.now _ (keyed_none _ c.args.desk.now c.args.desk.now refl)
    (records_nothing g.C.ChangeSink c.args.place c.args.changes.now c.args.desk.now c.args.desk.now refl)
