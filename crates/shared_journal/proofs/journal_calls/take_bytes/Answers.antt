use Rattle.std.proofs.Common.{◌∙◌, ap}
use Rattle.shared_journal.proofs.JournalCalls.{waiting_there, waiting_one, gives_none, takes_bytes, counts_each, counted_by, taken_count}
use Rattle.shared_journal.proofs.journal_calls.take_bytes.Goals as goal

pub exchange-part-requires-clause-held : goal.exchange-part-requires-clause-held
exchange-part-requires-clause-held g c =
    let t = c.take_waiting-count.ensures.taken in (t.part, waiting_there _ _ t)

pub return_none-requires-clause-held : goal.return_none-requires-clause-held
return_none-requires-clause-held g c =
    let t = c.take_waiting-count.ensures.taken in
    gives_none c.args.seat.now.me _ t.taken t.waits _ (waiting_one _ _ _ t _ c.exchange-part.ensures.held) (ap (λ b. b.items) c.spare.ensures ∙ c.requires.none)

pub returns-clause-taken : goal.returns-clause-taken
returns-clause-taken g c =
    let t = c.take_waiting-count.ensures.taken in
    takes_bytes _ _ _ _ t _ _ c.requires.log (waiting_one _ _ _ t _ c.exchange-part.ensures.held) c.exchange-part.ensures.part c.return_none.ensures.given

pub return_none-requires-clause-counted : goal.return_none-requires-clause-counted
return_none-requires-clause-counted g c =
    let t = c.take_waiting-count.ensures.taken in counts_each c.args.seat.now.me _ t.taken t.waits _ (waiting_one _ _ _ t _ c.exchange-part.ensures.held)

pub returns-clause-count : goal.returns-clause-count
returns-clause-count g c =
    let t = c.take_waiting-count.ensures.taken in
    taken_count c.args.seat.now.me _ _ _ t.taken t.waits _ (waiting_one _ _ _ t _ c.exchange-part.ensures.held) c.return_none.ensures.given (counted_by _ _ t _ c.take_waiting-count.ensures.count)
