use Rattle.std.proofs.Common.{◌≡◌, ◌≢◌, ℕ, ◌-◌, get_or, set, sym, ap, ◌∙◌, refl, arith, ◌++◌, ◌∷◌, [], map, length, length-set, length-append}
use Rattle.credit_book.specs.declared.event.Event.TheVariants.{Spawn}
use Rattle.credit_book.specs.declared.event.Stage.TheVariants.{Fresh}
use Rattle.credit_book.specs.declared.event.Standing.{Standing}
use Rattle.credit_book.specs.declared.task.Ticket.{Ticket}
use Rattle.credit_book.specs.Books.{BookState, spawn_event, ticket_of}
use Rattle.credit_book.specs.History.{table_of}
use Rattle.credit_book.proofs.Books.{gone, spawned, child_small, tasks_number, same_book, not_failed, posted-quiet}
use Rattle.credit_book.proofs.BufferLemmas.{collected-quiet}
use Rattle.credit_book.proofs.book.Book.spawn.Goals as goal

pub overflow_cast-child : goal.overflow_cast-child
overflow_cast-child c =
    let h = child_small _ _ _ _ _ _ _ c.self.invariant.0 in
    let len = c.len-child.ensures in let l = ap length c.reserve_task.ensures.items.0 in omega arith

-- there was no memory, and nothing has changed
pub invariant_of-self : goal.invariant_of-self
invariant_of-self c = (
  same_book _ _ _ _ _ _ _ _ _ _ c.reserve_task.ensures.items.0 c.reserve_task.ensures.items.1 c.reserve_task.ensures.items.2 c.self.invariant.0,
  (let l = ap length c.reserve_task.ensures.items.0 in let k = c.reserve_task.ensures.kept in let room = c.self.invariant.1 in omega arith),
  c.self.invariant.2,
  c.self.invariant.3,
)

pub invariant_of-self-2 : goal.invariant_of-self-2
invariant_of-self-2 c =
    let is : c.standing_of-standing.result ≡ get_or c.self.inside.standings.items c.args.parent gone = c.standing_of-standing.ensures ∙ ap (λ l. get_or l c.args.parent gone) c.as_slice.ensures.value in (
      (spawned _ _ _ _ _ _ _ c.self.invariant.0 c.args.parent c.len-child.result c.args.asked.program c.args.asked.share c.args.asked.arg c.args.asked.part.base (length c.args.asked.part.bytes) c.standing_of-standing.result
          _ _ _ _ _ _ is (sym c.may_work.ensures ∙ c.if-not-may_work.false) (let len = c.len-child.ensures in let l = ap length c.reserve_task.ensures.items.0 in omega arith)
          (let z : c.args.asked.share ≢ 0 = c.if-asked-eq0.false in omega arith) c.if-asked-standing.false
          c.reserve_task.ensures.items.0 c.reserve_task.ensures.items.1 (ap (λ ts. map (λ (t : Ticket). t.number) ts) c.reserve_task.ensures.items.2) c.new_task.ensures c.share_out.ensures c.push_reserved.ensures.items).book
          _ _ refl c.add.ensures,
      (let room = not_failed c.reserve_task.result _ (sym c.is_err.ensures.value ∙ c.if-is_err.false) c.reserve_task.ensures.room in
          let n = ap length c.share_out.ensures in
          let s : Standing = record { held = c.standing_of-standing.result.held - c.args.asked.share; stage = c.standing_of-standing.result.stage } in
          let a = length-append (set c.reserve_task.new.standings.items c.args.parent s) (record { held = c.args.asked.share; stage = Fresh } ∷ []) in
          let b = length-set c.reserve_task.new.standings.items c.args.parent s in
          let l = ap length c.reserve_task.ensures.items.0 in let m = room.2 in omega arith),
      posted-quiet _ _ _ (Spawn c.args.parent c.len-child.result c.args.asked.program c.args.asked.share c.args.asked.arg c.args.asked.part.base (length c.args.asked.part.bytes)) c.self.invariant.2 tt
          (spawned _ _ _ _ _ _ _ c.self.invariant.0 c.args.parent c.len-child.result c.args.asked.program c.args.asked.share c.args.asked.arg c.args.asked.part.base (length c.args.asked.part.bytes) c.standing_of-standing.result
          _ _ _ _ _ _ is (sym c.may_work.ensures ∙ c.if-not-may_work.false) (let len = c.len-child.ensures in let l = ap length c.reserve_task.ensures.items.0 in omega arith)
          (let z : c.args.asked.share ≢ 0 = c.if-asked-eq0.false in omega arith) c.if-asked-standing.false
          c.reserve_task.ensures.items.0 c.reserve_task.ensures.items.1 refl c.new_task.ensures c.share_out.ensures c.push_reserved.ensures.items).word c.add.ensures,
      collected-quiet _ _ _ (Spawn c.args.parent c.len-child.result c.args.asked.program c.args.asked.share c.args.asked.arg c.args.asked.part.base (length c.args.asked.part.bytes)) c.self.invariant.3 refl c.add.ensures,
    )

pub returns-clause-done : goal.returns-clause-done
returns-clause-done c =
    let number : c.len-child.result ≡ length (table_of c.args.self.now.history).standings =
    (let t = tasks_number _ _ _ _ _ _ _ c.self.invariant.0 c.args.self.now.history (ap (λ (a : BookState). a.history) c.self.view_is) in
    let len = c.len-child.ensures in let l = ap length c.reserve_task.ensures.items.0 in omega arith) in (
      ap (λ (a : BookState). a.board) c.self.view_is,
      ap (λ (a : BookState). a.size) c.self.view_is,
      c.reserve_task.ensures.items.2 ∙ ap (λ (a : BookState). a.waiting) c.self.view_is,
      (let job = c.opening-opening.ensures.same.0 ∙ ap (λ (a : BookState). a.board.job) c.self.view_is in
          let f : ℕ × ℕ → Ticket = λ x. ticket_of x.0 x.1 c.args.asked in ap f (λ i. (job i, number i))),
      c.add.ensures ∙ (ap (λ (a : BookState). a.history ++ spawn_event c.args.parent c.len-child.result c.args.asked ∷ []) c.self.view_is ∙ ap (λ (n : ℕ). c.args.self.now.history ++ spawn_event c.args.parent n c.args.asked ∷ []) number),
    )

pub returns-clause-legal : goal.returns-clause-legal
returns-clause-legal c = (invariant_of-self-2 c).0.legal
