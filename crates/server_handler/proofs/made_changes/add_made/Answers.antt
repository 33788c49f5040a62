use Rattle.server_handler.proofs.Recorded.{records_missing, records_one}
use Rattle.server_handler.proofs.made_changes.add_made.Goals as goal

pub returns-in-Some : goal.returns-in-Some
returns-in-Some g c old new keyed made =
    records_one g.C.ChangeSink c.args.place c.args.changes.now c.add.new.self old new keyed c.in-Some.change c.add.ensures.sound c.add.ensures.added (rw c.in-Some.is at made)

pub returns-in-None : goal.returns-in-None
returns-in-None g c old new keyed made = records_missing g.C.ChangeSink c.args.place c.args.changes.now c.fail.new.self old new keyed c.fail.ensures
