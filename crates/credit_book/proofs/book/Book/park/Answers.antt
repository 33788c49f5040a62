use Rattle.std.proofs.Common.{◌≡◌, true, get_or, sym, ap, ◌∙◌, refl, arith, ◌++◌, ◌∷◌, [], map, length-set}
use Rattle.credit_book.specs.declared.event.Event.TheVariants.{Park}
use Rattle.credit_book.specs.declared.event.Stage.TheVariants.{Parked}
use Rattle.credit_book.specs.declared.event.Standing.{Standing}
use Rattle.credit_book.specs.declared.task.Ticket.{Ticket}
use Rattle.credit_book.specs.Books.{BookState}
use Rattle.credit_book.specs.History.{is_fresh}
use Rattle.credit_book.proofs.Books.{gone, quiet_word, posted-quiet, quiet_book, park_becomes, sound_book, numbers-push, length-numbers}
use Rattle.credit_book.proofs.Sound.{parked_lt}
use Rattle.credit_book.proofs.BufferLemmas.{collected-quiet}
use Rattle.credit_book.proofs.book.Book.park.Goals as goal

pub push_back_reserved-requires : goal.push_back_reserved-requires
push_back_reserved-requires c =
    let is : c.standing_of-standing.result ≡ get_or c.self.inside.standings.items c.args.ticket.number gone = c.standing_of-standing.ensures ∙ ap (λ l. get_or l c.args.ticket.number gone) c.as_slice.ensures.value in
    let fresh : is_fresh (get_or c.self.inside.standings.items c.args.ticket.number gone).stage ≡ true = ap (λ (s : Standing). is_fresh s.stage) (sym is) ∙ (sym c.is_fresh.ensures ∙ c.if-not-is_fresh.false) in
    let lt = parked_lt _ _ _ (sound_book _ _ _ _ _ _ _ c.self.invariant.0) fresh in
    let n = length-numbers c.self.inside.parked.items in
    let room = c.self.invariant.1 in omega arith

pub invariant_of-self : goal.invariant_of-self
invariant_of-self c =
    let is : c.standing_of-standing.result ≡ get_or c.self.inside.standings.items c.args.ticket.number gone = c.standing_of-standing.ensures ∙ ap (λ l. get_or l c.args.ticket.number gone) c.as_slice.ensures.value in
    let fresh : is_fresh (get_or c.self.inside.standings.items c.args.ticket.number gone).stage ≡ true = ap (λ (s : Standing). is_fresh s.stage) (sym is) ∙ (sym c.is_fresh.ensures ∙ c.if-not-is_fresh.false) in
    let queue = ap (λ ts. map (λ (t : Ticket). t.number) ts) c.push_back_reserved.ensures.items ∙ numbers-push c.self.inside.parked.items c.args.ticket in (
      quiet_book _ _ _ _ _ _ _ c.self.invariant.0 (Park c.args.ticket.number) _ _ _ fresh (park_becomes c.self.inside.standings.items _ _ _ _ _ (ap (λ (s : Standing). s.held) is) queue) refl refl _ _ refl c.add.ensures,
      (let cap = c.push_back_reserved.ensures.capacity in let room = c.self.invariant.1 in
          let l = length-set c.self.inside.standings.items c.args.ticket.number (record { held = c.standing_of-standing.result.held; stage = Parked }) in omega arith),
      posted-quiet _ _ _ (Park c.args.ticket.number) c.self.invariant.2 tt
          (quiet_word _ _ _ _ _ _ _ c.self.invariant.0 (Park c.args.ticket.number) _ _ _ fresh (park_becomes c.self.inside.standings.items _ _ _ _ _ refl refl) refl refl) c.add.ensures,
      collected-quiet _ _ _ (Park c.args.ticket.number) c.self.invariant.3 refl c.add.ensures,
    )

pub returns-clause-done : goal.returns-clause-done
returns-clause-done c = (
  ap (λ (a : BookState). a.board) c.self.view_is,
  ap (λ (a : BookState). a.size) c.self.view_is,
  c.push_back_reserved.ensures.items ∙ ap (λ (a : BookState). a.waiting ++ c.args.ticket ∷ []) c.self.view_is,
  c.if-ticket-opening.false ∙ (c.opening-opening.ensures.same.0 ∙ ap (λ (a : BookState). a.board.job) c.self.view_is),
  c.add.ensures ∙ ap (λ (a : BookState). a.history ++ Park c.args.ticket.number ∷ []) c.self.view_is,
)

pub returns-clause-legal : goal.returns-clause-legal
returns-clause-legal c = (invariant_of-self c).0.legal
