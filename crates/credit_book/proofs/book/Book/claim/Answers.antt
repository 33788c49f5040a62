use Rattle.std.proofs.Common.{◌≡◌, get_or, ap, ◌∙◌, refl, arith, map, length, length-set}
use Rattle.credit_book.specs.declared.event.Event.TheVariants.{Claim}
use Rattle.credit_book.specs.declared.event.Stage.TheVariants.{Claimed}
use Rattle.credit_book.specs.declared.event.Standing.{Standing}
use Rattle.credit_book.specs.declared.task.Ticket.{Ticket}
use Rattle.credit_book.proofs.Books.{gone, claimed, claim_within, same_numbers, posted-quiet}
use Rattle.credit_book.proofs.BufferLemmas.{collected-quiet}
use Rattle.credit_book.proofs.book.Book.claim.Goals as goal

pub index_mut-requires : goal.index_mut-requires
index_mut-requires c =
    let w = claim_within _ _ _ _ _ _ _ c.self.invariant.0 c.in_ok-ticket.ticket.number _ (ap (λ ts. map (λ (t : Ticket). t.number) ts) c.in_ok-ticket.ensures.items) in
    let l = c.as_slice.ensures.len in let v = ap length c.as_slice.ensures.value in omega arith

-- nothing was parked
pub invariant_of-self : goal.invariant_of-self
invariant_of-self c = (
  same_numbers _ _ _ _ _ _ _ _ c.in_err-ticket.ensures.items c.self.invariant.0,
  (let cap = c.pop_front.ensures.capacity in let room = c.self.invariant.1 in omega arith),
  c.self.invariant.2,
  c.self.invariant.3,
)

pub invariant_of-self-2 : goal.invariant_of-self-2
invariant_of-self-2 c =
    let is : c.standing_of-standing.result ≡ get_or c.self.inside.standings.items c.in_ok-ticket.ticket.number gone = c.standing_of-standing.ensures ∙ ap (λ l. get_or l c.in_ok-ticket.ticket.number gone) c.as_slice.ensures.value in (
      (claimed _ _ _ _ _ _ _ c.self.invariant.0 c.in_ok-ticket.ticket.number c.standing_of-standing.result.held _ (ap (λ (s : Standing). s.held) is) (ap (λ ts. map (λ (t : Ticket). t.number) ts) c.in_ok-ticket.ensures.items)).book _ _ refl c.add.ensures,
      (let cap = c.pop_front.ensures.capacity in let room = c.self.invariant.1 in
          let l = length-set c.self.inside.standings.items c.in_ok-ticket.ticket.number (record { held = c.standing_of-standing.result.held; stage = Claimed }) in omega arith),
      posted-quiet _ _ _ (Claim c.in_ok-ticket.ticket.number) c.self.invariant.2 tt
          (claimed _ _ _ _ _ _ _ c.self.invariant.0 c.in_ok-ticket.ticket.number c.standing_of-standing.result.held _ (ap (λ (s : Standing). s.held) is) (ap (λ ts. map (λ (t : Ticket). t.number) ts) c.in_ok-ticket.ensures.items)).word c.add.ensures,
      collected-quiet _ _ _ (Claim c.in_ok-ticket.ticket.number) c.self.invariant.3 refl c.add.ensures,
    )

pub returns-clause-legal : goal.returns-clause-legal
returns-clause-legal c = (invariant_of-self-2 c).0.legal
