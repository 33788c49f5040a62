use Rattle.std.proofs.Common.{◌≡◌, All, length, rules, subst}
use Rattle.desk_records.specs.declared.stored_desk.StoredDesk.{StoredDesk}
use Rattle.desk_records.specs.declared.stored_key.StoredKey.{StoredKey}
use Rattle.ledger_records.specs.LedgerRecords.{HasFewerTaken}
use Rattle.ledger_records.specs.SoFar.{AreKeysSoFar, TellsLast}
use Rattle.ledger_records.proofs.DeskLemmas.{desk_is}
use Rattle.ledger_records.proofs.restored_desk.restore_desk.Goals as goal

pub returns-clause-desk : goal.returns-clause-desk
returns-clause-desk c =
    let l = c.args.records.now in
    let ends : TellsLast c.args.number l.desks c.in_ok-desk.desk c.add_last.new.desk = search rules in
    let fewer : All (HasFewerTaken c.args.number (length c.add_last.new.desk.jobs)) l.desks = search rules in
    let keys : AreKeysSoFar c.args.number (length c.add_last.new.desk.jobs) l.keys c.in_ok-keys.keys.jobs = search rules in
    desk_is c.args.number l c.in_ok-desk.desk (record { ledger = c.add_last.new.desk; keys = c.in_ok-keys.keys.jobs }) c.in_ok-desk.open_jobs.items c.in_ok-desk.ensures ends fewer keys
