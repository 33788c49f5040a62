use Rattle.std.proofs.Common.{ap, length}
use Rattle.accounts.specs.Ledgers.{Ledger}
use Rattle.server_handler.proofs.Made.{if_some_weaker}
use Rattle.server_handler.proofs.Recorded.{keyed_none, keyed_one, records_keyed, records_nothing, records_unkeyed}
use Rattle.server_handler.proofs.Starts.{longer, none_taken}
use Rattle.server_handler.proofs.recorded_submit.take_recorded.Goals as goal

pub returns-in-Err-clause-refused : goal.returns-in-Err-clause-refused
returns-in-Err-clause-refused g c key programs buffer made = c.take.ensures.refused programs buffer (rw c.in-Err.is at made)

pub returns-in-Err-clause-records : goal.returns-in-Err-clause-records
returns-in-Err-clause-records g c key programs buffer made =
    let same = none_taken c.take.result c.in-Err.fault c.args.desk.now c.take.new.self c.take.ensures.job c.take.ensures.unchanged in
    records_unkeyed g.C.ChangeSink c.args.place c.args.changes.now c.args.changes.now c.args.desk.now c.take.new.self _ (keyed_none key c.args.desk.now c.take.new.self (ap (λ (l : Ledger). length l.jobs) same))
    (records_nothing g.C.ChangeSink c.args.place c.args.changes.now c.args.desk.now c.take.new.self same)

pub returns-in-Ok-take-clause-records : goal.returns-in-Ok-take-clause-records
returns-in-Ok-take-clause-records g c key programs buffer made =
    let with_record = rw c.in-Ok.is at made in
    let takes = c.in-Ok-take.ensures.taken in
    records_keyed g.C.ChangeSink c.args.place c.args.changes.now c.add_made.new.changes c.args.desk.now c.take-2.new.self _ _ (keyed_one key c.args.desk.now c.take-2.new.self (longer c.args.desk.now c.take-2.new.self _ _ takes))
    (c.add_made.ensures c.args.desk.now c.take-2.new.self _ (if_some_weaker c.in-Ok.made.1 (λ change is. is c.args.desk.now c.take-2.new.self c.in-Ok.made.0 takes with_record.0) with_record.1))

pub returns-in-Err-take-clause-records : goal.returns-in-Err-take-clause-records
returns-in-Err-take-clause-records g c key programs buffer made =
    let same = c.in-Err-take.ensures.unchanged in
    records_unkeyed g.C.ChangeSink c.args.place c.args.changes.now c.args.changes.now c.args.desk.now c.take-2.new.self _ (keyed_none key c.args.desk.now c.take-2.new.self (ap (λ (l : Ledger). length l.jobs) same))
    (records_nothing g.C.ChangeSink c.args.place c.args.changes.now c.args.desk.now c.take-2.new.self same)
