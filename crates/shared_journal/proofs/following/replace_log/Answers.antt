use Rattle.std.proofs.Common.{◌∙◌, ◌++◌, ap, sym, refl}
use Rattle.shared_journal.proofs.JournalCalls.{log_there, first_held}
use Rattle.shared_journal.proofs.FollowSteps.{log_two, gives_copied, number_held, follows_on, copies_given, copies_of, copies_of_slice, keeps_got, stands_for_copied, still_found}
use Rattle.shared_journal.proofs.following.replace_log.Goals as goal

pub exchange-part-requires-clause-held : goal.exchange-part-requires-clause-held
exchange-part-requires-clause-held g c =
    let t = c.hold_log.ensures.taken in (t.part, log_there _ _ t)

pub exchange-requires-clause-held : goal.exchange-requires-clause-held
exchange-requires-clause-held g c =
    (_, first_held 1 _ _ _ (ap (λ m. m.1) c.exchange-part.ensures.held))

pub return_copied-requires-clause-follows : goal.return_copied-requires-clause-follows
return_copied-requires-clause-follows g c =
    let t = c.hold_log.ensures.taken in
    number_held c.args.seat.now.me c.exchange.new.seat.me _ _ _ _
    (log_two c.args.seat.now.me c.hold_log.new.seat.me c.exchange-part.new.seat.me c.exchange.new.seat.me t _ _ c.exchange-part.ensures.held c.exchange.ensures.held)
    c.requires.follows

pub return_copied-requires-clause-held : goal.return_copied-requires-clause-held
return_copied-requires-clause-held g c =
    let t = c.hold_log.ensures.taken in
    let got = c.exchange-part.result in
    gives_copied c.args.seat.now.me c.exchange.new.seat.me _ _ _ _ c.replaced_log-commits.result.0
    (log_two c.args.seat.now.me c.hold_log.new.seat.me c.exchange-part.new.seat.me c.exchange.new.seat.me t _ _ c.exchange-part.ensures.held c.exchange.ensures.held)
    refl
    (c.replaced_log-commits.ensures.keeps c.args.seat.now.me.0.first t.copied t.taken t.written
    (stands_for_copied c.args.seat.now.me c.hold_log.new.seat.me t _ c.requires.follows c.requires.stands)
    (keeps_got c.args.seat.now.me c.hold_log.new.seat.me t got c.in-Some.commits c.exchange-part.ensures.part c.in-Some.is)
    (copies_of_slice c.args.seat.now.me c.hold_log.new.seat.me t got c.deref.result.now c.exchange-part.ensures.part c.deref.ensures.value))
    c.new-2.ensures.items

pub returns-clause-follows : goal.returns-clause-follows
returns-clause-follows g c =
    let t = c.hold_log.ensures.taken in
    follows_on c.args.seat.now.me c.exchange.new.seat.me c.return_copied.new.seat.me _ _ _ _
    (log_two c.args.seat.now.me c.hold_log.new.seat.me c.exchange-part.new.seat.me c.exchange.new.seat.me t _ _ c.exchange-part.ensures.held c.exchange.ensures.held)
    c.return_copied.ensures.given c.requires.follows

pub returns-clause-replayed : goal.returns-clause-replayed
returns-clause-replayed g c found was =
    let t = c.hold_log.ensures.taken in
    let given = copies_given c.args.seat.now.me c.hold_log.new.seat.me c.exchange.new.seat.me c.return_copied.new.seat.me t _ c.exchange-part.result
    (log_two c.args.seat.now.me c.hold_log.new.seat.me c.exchange-part.new.seat.me c.exchange.new.seat.me t _ _ c.exchange-part.ensures.held c.exchange.ensures.held)
    c.return_copied.ensures.given c.requires.follows
    (copies_of c.args.seat.now.me c.hold_log.new.seat.me t c.exchange-part.result c.exchange-part.ensures.part)
    (c.lose_unless.ensures.followed (still_found _ _ c.replay.ensures.lost found)).1 in
    c.replay.ensures.more ∙ ((λ i. (c.lose_unless.ensures.same ∙ was) i ++ c.deref-2.ensures.value i) ∙ sym given)
