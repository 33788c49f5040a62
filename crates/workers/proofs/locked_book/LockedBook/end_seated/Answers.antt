use Rattle.std.proofs.Common.{◌≡◌, ◌≤◌, List, true, ap, sym, subst, ◌∙◌}
use Rattle.credit_book.specs.Boards.{Sign}
use Rattle.credit_book.specs.History.{may_work, standing_at, table_of}
use Rattle.credit_book.specs.declared.task.Ticket.{Ticket}
use Rattle.job_answer.specs.OneAnswer.{IsPaidFor}
use Rattle.task_register.specs.Register.{RegisterModel}
use Rattle.task_register.specs.Rule.{with_end}
use Rattle.task_register.specs.Handing.{ended_with}
use Rattle.workers.specs.Locked.{AreSeats, TellsSpawnRefusal}
use Rattle.workers.proofs.NoRefusals.{affords, ends, may_work_now, queued_end}
use Rattle.workers.proofs.RefusalLemmas.{told_once_more}
use Rattle.workers.proofs.RegisterSteps.{ended}
use Rattle.workers.proofs.locked_book.LockedBook.end_seated.Goals as goal

pub invariant_of-self : goal.invariant_of-self
invariant_of-self g c =
    let done = c.in-Ok.ensures.done in
    let inv = c.self.invariant in
    let closed = c.close.ensures.over in
    let own = ap (λ o. with_end c.self.inside.register.known (ended_with c.args.seat o c.args.whole)) c.of-was.ensures in (
      ended _ _ c.self.inside.register.known c.close.new.self.known c.self.inside.book.history c.end.new.self.history c.args.seat c.args.outcome c.args.whole inv.0 c.requires.number
          done.4 c.in-Ok.ensures.legal (ap (λ (r : RegisterModel). r.known) closed ∙ own),
      subst (λ (l : List Ticket). AreSeats _ l c.close.new.self.waiting) (sym done.2) (subst (λ ss. AreSeats _ c.self.inside.book.waiting ss) (sym (ap (λ (r : RegisterModel). r.waiting) closed)) inv.1),
      done.0 ∙ inv.2,
      done.1 ∙ inv.3,
      queued_end c.self.inside.book.history c.end.new.self.history c.args.outcome c.self.inside.book.waiting c.end.new.self.waiting done.4 done.2 inv.4,
      subst (λ (r : RegisterModel). TellsSpawnRefusal c.refused_so_far-self-inside.result r.known.over) (sym closed)
          (told_once_more c.self.inside.refused c.refused_so_far-self-inside.result c.self.inside.register.known.over (ended_with c.args.seat c.of-was.result.value c.args.whole) inv.5 c.refused_so_far-self-inside.ensures),
    )

-- the task is open, and its book would take its end
pub unreachable-requires : goal.unreachable-requires
unreachable-requires g c =
    let inv = c.self.invariant in
    let own : IsPaidFor (ended_with c.args.seat c.args.outcome c.args.whole) = c.requires.paid in
    let history = c.self.inside.book.history in
    let waiting = c.self.inside.book.waiting in
    let works = may_work_now _ _ history c.self.inside.register.known waiting c.self.inside.register.waiting c.job.ensures.legal inv.0
    (subst (λ n. AreSeats n waiting c.self.inside.register.waiting) (sym (ap (λ (s : Sign). s.job) inv.2)) inv.1) inv.4 c.args.seat c.close.ensures.«open» in
    let enough = affords _ _ history c.self.inside.register.known waiting c.self.inside.register.waiting c.job.ensures.legal inv.0
    (subst (λ n. AreSeats n waiting c.self.inside.register.waiting) (sym (ap (λ (s : Sign). s.job) inv.2)) inv.1) inv.4 c.args.seat c.close.ensures.«open» c.args.outcome c.args.whole own in
    ends c.self.inside.book c.args.outcome c.in-Err.field-0.fault (c.requires.job ∙ sym (ap (λ (s : Sign). s.job) inv.2))
    (subst (λ n. may_work (standing_at (table_of history) n).stage ≡ true) c.requires.number works)
    (subst (λ n. c.args.outcome.used ≤ (standing_at (table_of history) n).held) c.requires.number enough) c.in-Err.ensures.refused.2
