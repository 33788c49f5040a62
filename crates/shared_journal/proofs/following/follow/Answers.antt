use Rattle.std.proofs.Common.{ap}
use Rattle.shared_journal.proofs.JournalCalls.{log_there, first_held, same_log}
use Rattle.shared_journal.proofs.FollowSteps.{log_two, gives_copied, number_held, follows_on, copies_given, copies_of, still_found}
use Rattle.shared_journal.proofs.following.follow.Goals as goal

pub exchange-part-requires-clause-held : goal.exchange-part-requires-clause-held
exchange-part-requires-clause-held g c =
    let t = c.hold_log.ensures.taken in (t.part, log_there _ _ t)

pub exchange-requires-clause-held : goal.exchange-requires-clause-held
exchange-requires-clause-held g c =
    (_, first_held 1 _ _ _ (ap (λ m. m.1) c.exchange-part.ensures.held))

pub return_copied-requires-clause-follows : goal.return_copied-requires-clause-follows
return_copied-requires-clause-follows g c =
    let t = c.hold_log.ensures.taken in
    number_held c.args.seat.now.me c.exchange.new.seat.me _ _ _ _
    (log_two c.args.seat.now.me c.hold_log.new.seat.me c.exchange-part.new.seat.me c.exchange.new.seat.me t _ _ c.exchange-part.ensures.held c.exchange.ensures.held)
    c.requires.follows

pub return_copied-requires-clause-held : goal.return_copied-requires-clause-held
return_copied-requires-clause-held g c =
    let t = c.hold_log.ensures.taken in
    gives_copied c.args.seat.now.me c.exchange.new.seat.me _ _ _ _ t.commits
    (log_two c.args.seat.now.me c.hold_log.new.seat.me c.exchange-part.new.seat.me c.exchange.new.seat.me t _ _ c.exchange-part.ensures.held c.exchange.ensures.held)
    (same_log c.args.seat.now.me c.hold_log.new.seat.me t c.exchange-part.result c.exchange-part.ensures.part) t.keeps c.new-2.ensures.items

pub returns-clause-follows : goal.returns-clause-follows
returns-clause-follows g c =
    let t = c.hold_log.ensures.taken in
    follows_on c.args.seat.now.me c.exchange.new.seat.me c.return_copied.new.seat.me _ _ _ _
    (log_two c.args.seat.now.me c.hold_log.new.seat.me c.exchange-part.new.seat.me c.exchange.new.seat.me t _ _ c.exchange-part.ensures.held c.exchange.ensures.held)
    c.return_copied.ensures.given c.requires.follows

pub returns-clause-copied : goal.returns-clause-copied
returns-clause-copied g c found =
    let t = c.hold_log.ensures.taken in
    copies_given c.args.seat.now.me c.hold_log.new.seat.me c.exchange.new.seat.me c.return_copied.new.seat.me t _ c.exchange-part.result
    (log_two c.args.seat.now.me c.hold_log.new.seat.me c.exchange-part.new.seat.me c.exchange.new.seat.me t _ _ c.exchange-part.ensures.held c.exchange.ensures.held)
    c.return_copied.ensures.given c.requires.follows
    (copies_of c.args.seat.now.me c.hold_log.new.seat.me t c.exchange-part.result c.exchange-part.ensures.part)
    (c.lose_unless.ensures.followed (still_found _ _ c.replay_if.ensures.lost (still_found _ _ c.replay_if-2.ensures.lost found))).1
