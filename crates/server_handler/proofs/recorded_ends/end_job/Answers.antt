use Rattle.std.proofs.Common.{[], sym, subst}
use Rattle.accounts.specs.Ledgers.{Ledger}
use Rattle.server_state.specs.Changing.{Records}
use Rattle.server_handler.proofs.Made.{if_some_weaker}
use Rattle.server_handler.proofs.Recorded.{records_nothing}
use Rattle.server_handler.proofs.recorded_ends.end_job.Goals as goal

pub returns-in-Ok-clause-records : goal.returns-in-Ok-clause-records
returns-in-Ok-clause-records g c =
    let s = c.settled_change-made in
    let over = c.in-Ok.ensures.finished in
    let records = c.add_made.ensures c.args.desk.now c.finish.new.self [] (if_some_weaker s.result (λ made is. is c.args.desk.now c.args.outcome over) s.ensures.settled) in
    subst (λ (l : Ledger). Records g.C.ChangeSink c.args.id.desk c.args.changes.now c.add_made.new.changes c.args.desk.now l []) (sym s.ensures.same) records

pub returns-in-Err-clause-records : goal.returns-in-Err-clause-records
returns-in-Err-clause-records g c = records_nothing g.C.ChangeSink c.args.id.desk c.args.changes.now c.args.desk.now c.finish.new.self c.in-Err.ensures.unchanged
