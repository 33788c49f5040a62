use Rattle.std.proofs.Common.{ap, ◌∙◌, refl}
use Rattle.shared_journal.proofs.JournalCalls.{log_there, first_held, gives_log, gives_log_up, seen_count, seen_most, seen_free, commits_seen}
use Rattle.shared_journal.proofs.journal_calls.commit_all.Goals as goal

pub exchange-part-requires-clause-held : goal.exchange-part-requires-clause-held
exchange-part-requires-clause-held g c =
    let t = c.if-not-take_log.ensures.taken in (t.part, log_there _ _ t)

pub exchange-requires-clause-held : goal.exchange-requires-clause-held
exchange-requires-clause-held g c =
    (_, first_held 1 _ _ _ (c.write_waiting-written.ensures.held.0 ∙ ap (λ m. m.1) c.exchange-part.ensures.held))

pub settle_log-requires-clause-held : goal.settle_log-requires-clause-held
settle_log-requires-clause-held g c =
    gives_log c.write_waiting-written.new.seat.me _ _ _ c.write_waiting-written.ensures.held.1 c.exchange.ensures.held refl c.in-Ok.ensures.ok.1 c.in-Ok.ensures.copied

pub return_log-requires-clause-held : goal.return_log-requires-clause-held
return_log-requires-clause-held g c =
    gives_log_up c.write_waiting-written.new.seat.me _ _ _ c.write_waiting-written.ensures.held.1 c.exchange.ensures.held refl c.in-Err.ensures.err.1 c.in-Err.ensures.not_copied

pub take_log-requires-clause-count : goal.take_log-requires-clause-count
take_log-requires-clause-count g c = seen_count _ _ _ c.see_each-count.ensures.seen

pub take_log-requires-clause-most : goal.take_log-requires-clause-most
take_log-requires-clause-most g c = seen_most _ _ _ c.see_each-count.ensures.seen

pub write_waiting-written-requires-clause-log : goal.write_waiting-written-requires-clause-log
write_waiting-written-requires-clause-log g c =
    seen_free _ _ _ _ _ c.see_each-count.ensures.seen (c.if-not-take_log.ensures.taken) _ c.requires.free.0 c.exchange-part.ensures.held

pub returns-then-not-take_log-clause-ok : goal.returns-then-not-take_log-clause-ok
returns-then-not-take_log-clause-ok g c =
    commits_seen _ _ _ _ c.requires.free.0 c.requires.free.1 c.see_each-count.ensures.seen (c.if-not-take_log.ensures.taken)
