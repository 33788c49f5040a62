use Rattle.std.proofs.Common.{ℕ, ◌-◌, ◌≤◌, sym, ap, ◌∙◌, subst, arith, eq-eqb, eqb-true, ◌++◌, ◌∷◌, [], length-set}
use Rattle.std.specs.VecDeque.{deque_capacity}
use Rattle.credit_book.specs.Boards.{Sign}
use Rattle.credit_book.specs.Books.{BookState, end_event}
use Rattle.credit_book.proofs.Books.{gone, Read, read, end_legal, posted_end, posted-all, end_within_tasks, end_fits, issued_small, end_amount, end_book_as, book_complete, on_board}
use Rattle.credit_book.proofs.BufferLemmas.{collected-end, length-collected}
use Rattle.credit_book.proofs.book.Book.end.Goals as goal

pub end_task-requires : goal.end_task-requires
end_task-requires c =
    let r : Read c.self.inside.standings.items c.args.outcome.number c.args.outcome.used c.standing_of-standing.result = read _ _ _ _ _ _ c.as_slice.ensures.value c.standing_of-standing.ensures c.may_work.ensures c.if-not-may_work.false c.if-outcome-standing.false in
    end_within_tasks _ _ _ _ _ _ _ c.self.invariant.0 c.args.outcome r.works r.le

pub overflow_add-self : goal.overflow_add-self
overflow_add-self c =
    let r : Read c.self.inside.standings.items c.args.outcome.number c.args.outcome.used c.standing_of-standing.result = read _ _ _ _ _ _ c.as_slice.ensures.value c.standing_of-standing.ensures c.may_work.ensures c.if-not-may_work.false c.if-outcome-standing.false in
    let a = end_fits _ _ _ _ _ _ _ c.self.invariant.0 c.args.outcome r.works r.le in let b = issued_small _ _ _ _ _ _ _ c.self.invariant.0 in omega arith

pub overflow_add-self-2 : goal.overflow_add-self-2
overflow_add-self-2 c =
    let r : Read c.self.inside.standings.items c.args.outcome.number c.args.outcome.used c.standing_of-standing.result = read _ _ _ _ _ _ c.as_slice.ensures.value c.standing_of-standing.ensures c.may_work.ensures c.if-not-may_work.false c.if-outcome-standing.false in
    let a = end_fits _ _ _ _ _ _ _ c.self.invariant.0 c.args.outcome r.works r.le in let b = issued_small _ _ _ _ _ _ _ c.self.invariant.0 in let h = r.held in omega arith

pub publish-requires-clause-legal : goal.publish-requires-clause-legal
publish-requires-clause-legal c =
    let r : Read c.self.inside.standings.items c.args.outcome.number c.args.outcome.used c.standing_of-standing.result = read _ _ _ _ _ _ c.as_slice.ensures.value c.standing_of-standing.ensures c.may_work.ensures c.if-not-may_work.false c.if-outcome-standing.false in
    end_legal _ _ _ _ _ _ _ c.self.invariant.0 c.args.outcome r.works r.le

pub publish-requires-clause-grows : goal.publish-requires-clause-grows
publish-requires-clause-grows c = posted_end _ _ c.args.outcome c.self.invariant.2

pub publish-requires-clause-amount : goal.publish-requires-clause-amount
publish-requires-clause-amount c =
    let p = c.self.invariant.2.3 in
    let r : Read c.self.inside.standings.items c.args.outcome.number c.args.outcome.used c.standing_of-standing.result = read _ _ _ _ _ _ c.as_slice.ensures.value c.standing_of-standing.ensures c.may_work.ensures c.if-not-may_work.false c.if-outcome-standing.false in
    let a = end_amount _ _ _ _ _ _ _ c.self.invariant.0 c.args.outcome r.works r.le in
    let b = end_fits _ _ _ _ _ _ _ c.self.invariant.0 c.args.outcome r.works r.le in let i = issued_small _ _ _ _ _ _ _ c.self.invariant.0 in
    let h = r.held in let from = c.from.ensures in let from2 = c.from-2.ensures in omega arith

pub overflow_add-result : goal.overflow_add-result
overflow_add-result c =
    let r : Read c.self.inside.standings.items c.args.outcome.number c.args.outcome.used c.standing_of-standing.result = read _ _ _ _ _ _ c.as_slice.ensures.value c.standing_of-standing.ensures c.may_work.ensures c.if-not-may_work.false c.if-outcome-standing.false in
    let a = end_fits _ _ _ _ _ _ _ c.self.invariant.0 c.args.outcome r.works r.le in let b = issued_small _ _ _ _ _ _ _ c.self.invariant.0 in let h = r.held in omega arith

pub invariant_of-self : goal.invariant_of-self
invariant_of-self c = (
  (let r : Read c.self.inside.standings.items c.args.outcome.number c.args.outcome.used c.standing_of-standing.result = read _ _ _ _ _ _ c.as_slice.ensures.value c.standing_of-standing.ensures c.may_work.ensures c.if-not-may_work.false c.if-outcome-standing.false in
      on_board _ _ _ _ _ _ _ _ c.publish.ensures.board
      (end_book_as _ _ _ _ _ _ _ c.self.invariant.0 c.args.outcome r.works r.le _ _ _ c.add.ensures (ap (λ h. h - c.args.outcome.used) r.held) c.end_task.ensures.items)),
  subst (λ (n : ℕ). n ≤ deque_capacity c.self.inside.parked) (sym (length-set c.self.inside.standings.items c.args.outcome.number gone)) c.self.invariant.1,
  posted-all _ _ (c.publish.ensures.history ∙ sym c.add.ensures),
  collected-end _ _ _ _ c.args.outcome c.self.invariant.3 c.copy_within.ensures c.add.ensures,
)

pub returns-clause-done : goal.returns-clause-done
returns-clause-done c = (
  c.publish.ensures.board ∙ ap (λ (a : BookState). a.board) c.self.view_is,
  length-collected _ _ c.args.outcome c.copy_within.ensures ∙ ap (λ (a : BookState). a.size) c.self.view_is,
  ap (λ (a : BookState). a.waiting) c.self.view_is,
  c.if-outcome-opening.false ∙ (c.opening-opening.ensures.same.0 ∙ ap (λ (a : BookState). a.board.job) c.self.view_is),
  c.add.ensures ∙ ap (λ (a : BookState). a.history ++ end_event c.args.outcome ∷ []) c.self.view_is,
)

pub returns-clause-legal : goal.returns-clause-legal
returns-clause-legal c = (invariant_of-self c).0.legal

pub returns-clause-totals : goal.returns-clause-totals
returns-clause-totals c = ((invariant_of-self c).0.spent_is, (invariant_of-self c).0.returned_is)

pub returns-clause-complete : goal.returns-clause-complete
returns-clause-complete c =
    let issued = c.opening-opening.ensures.same.1 ∙ sym (ap (λ (b : Sign). b.issued) c.publish.ensures.board) in
    let all = book_complete _ _ _ _ _ _ _ (invariant_of-self c).0 in
    ((λ t. all.0 (eqb-true _ _ t ∙ issued)), (λ done. eq-eqb _ _ (all.1 done ∙ sym issued)))
