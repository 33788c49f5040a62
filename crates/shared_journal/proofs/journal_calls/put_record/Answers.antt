use Rattle.std.proofs.Common.{◌∙◌, ◌++◌, ap}
use Rattle.shared_journal.proofs.JournalCalls.{waiting_there, first_held, waiting_two, waiting_bytes, counts_more, counts_more_than, counts_each, counted_by, one_more, no_fewer, still_held, gives_record, gives_waiting}
use Rattle.shared_journal.proofs.journal_calls.put_record.Goals as goal

pub return_waiting-requires-clause-held : goal.return_waiting-requires-clause-held
return_waiting-requires-clause-held g c =
    let t = c.take_waiting-count.ensures.taken in gives_waiting c.args.seat.now.me _ t.taken t.waits t.part t.is t.bytes

pub return_waiting-requires-clause-counted : goal.return_waiting-requires-clause-counted
return_waiting-requires-clause-counted g c =
    let t = c.take_waiting-count.ensures.taken in counts_each c.args.seat.now.me _ t.taken t.waits _ t.is

pub exchange-part-requires-clause-held : goal.exchange-part-requires-clause-held
exchange-part-requires-clause-held g c =
    let t = c.take_waiting-count.ensures.taken in (t.part, waiting_there _ _ t)

pub exchange-requires-clause-held : goal.exchange-requires-clause-held
exchange-requires-clause-held g c =
    (_, first_held 0 _ _ _ (ap (λ m. m.1) c.exchange-part.ensures.held))

pub set_count-requires-clause-held : goal.set_count-requires-clause-held
set_count-requires-clause-held g c =
    let t = c.take_waiting-count.ensures.taken in
    still_held c.args.seat.now.me _ t.taken t.waits _ (waiting_two _ _ _ _ t _ _ c.exchange-part.ensures.held c.exchange.ensures.held)

pub set_count-requires-clause-most : goal.set_count-requires-clause-most
set_count-requires-clause-most g c =
    let t = c.take_waiting-count.ensures.taken in
    no_fewer c.args.seat.now.me _ _ t.taken t.waits _ (waiting_two _ _ _ _ t _ _ c.exchange-part.ensures.held c.exchange.ensures.held) (counted_by _ _ t _ c.take_waiting-count.ensures.count)

pub return_record-requires-clause-held : goal.return_record-requires-clause-held
return_record-requires-clause-held g c =
    let t = c.take_waiting-count.ensures.taken in
    gives_record c.args.seat.now.me _ t.taken t.waits _ _ c.args.bytes.now
    (counts_more c.args.seat.now.me _ _ t.taken t.waits _ _ (waiting_two _ _ _ _ t _ _ c.exchange-part.ensures.held c.exchange.ensures.held) c.set_count.ensures.counted)
    (c.in-Ok.ensures.ok ∙ ap (λ l. l ++ c.args.bytes.now) (waiting_bytes _ _ t _ c.exchange-part.ensures.part))

pub return_record-requires-clause-counted : goal.return_record-requires-clause-counted
return_record-requires-clause-counted g c =
    let t = c.take_waiting-count.ensures.taken in
    counts_more_than c.args.seat.now.me _ _ t.taken t.waits _
    (counts_more c.args.seat.now.me _ _ t.taken t.waits _ _ (waiting_two _ _ _ _ t _ _ c.exchange-part.ensures.held c.exchange.ensures.held) c.set_count.ensures.counted)
    (one_more _ _ (counted_by _ _ t _ c.take_waiting-count.ensures.count))

pub return_waiting-requires-in-Err-clause-held : goal.return_waiting-requires-in-Err-clause-held
return_waiting-requires-in-Err-clause-held g c =
    let t = c.take_waiting-count.ensures.taken in
    gives_waiting c.args.seat.now.me _ t.taken t.waits _ (waiting_two _ _ _ _ t _ _ c.exchange-part.ensures.held c.exchange.ensures.held) (c.in-Err.ensures.err ∙ waiting_bytes _ _ t _ c.exchange-part.ensures.part)

pub return_waiting-requires-in-Err-clause-counted : goal.return_waiting-requires-in-Err-clause-counted
return_waiting-requires-in-Err-clause-counted g c =
    let t = c.take_waiting-count.ensures.taken in
    counts_each c.args.seat.now.me _ t.taken t.waits _ (waiting_two _ _ _ _ t _ _ c.exchange-part.ensures.held c.exchange.ensures.held)
