use Rattle.std.proofs.Common.{◌<◌, All, arith, length, refl, slice_index_or, take}
use Rattle.std.proofs.lemmas.List.{take_more}
use Rattle.std.proofs.lemmas.List.Elements.{All-push}
use Rattle.desk_records.specs.declared.stored_desk.StoredDesk.{StoredDesk}
use Rattle.ledger_records.specs.LedgerRecords.{HasFewerTaken}
use Rattle.ledger_records.proofs.restored_desk.tell_no_more.Goals as goal

pub loop-row-preserved : goal.loop-row-preserved
loop-row-preserved c =
    let rows = c.args.desks.now in
    let at = c.loop-row.row-index in
    let none : StoredDesk = record { desk = 0; taken = 0 } in
    let within : at < length rows = omega arith in
    rw (take_more rows at none within) (All-push (HasFewerTaken c.args.number c.args.count) (take at rows) (slice_index_or rows at none) c.loop-row.invariant (c.if-not-tells_no_more.ensures refl))
