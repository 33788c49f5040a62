use Rattle.std.proofs.Common.{[], arith}
use Rattle.server_handler.proofs.Recorded.{records_nothing}
use Rattle.server_handler.proofs.recorded_answers.keep_recorded.Goals as goal

pub returns-then-ahead-gt0-clause-records : goal.returns-then-ahead-gt0-clause-records
returns-then-ahead-gt0-clause-records g c =
    c.add_made.ensures c.args.desk.now c.keep_within-ahead.new.self [] (c.forgotten_change.ensures c.args.desk.now c.keep_within-ahead.new.self c.keep_within-ahead.ensures.forgets.forgets)

pub returns-else-ahead-gt0-clause-records : goal.returns-else-ahead-gt0-clause-records
returns-else-ahead-gt0-clause-records g c =
    let none = c.if-ahead-gt0.false in
    records_nothing g.C.ChangeSink c.args.place c.args.changes.now c.args.desk.now c.keep_within-ahead.new.self (c.keep_within-ahead.ensures.forgets.same (omega (arith, none)))
