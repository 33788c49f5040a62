use Rattle.std.proofs.Common.{rules}
use Rattle.credit_book.specs.declared.task.Ticket.{Ticket}
use Rattle.lanes.specs.declared.deque.Pass.{Pass}
use Rattle.lanes.specs.declared.deque.Stealing.{Stealing}
use Rattle.lanes.specs.declared.deque.Thief.{Thief}
use Rattle.lanes.specs.Passes.{IsNewThief}
use Rattle.server_tests.proofs.LastOnes.{of_last}
use Rattle.server_tests.proofs.order.in_order.Goals as goal

pub stolen-requires : goal.stolen-requires
stolen-requires c =
    let last = of_last (λ (t : Thief Ticket × Pass (Stealing Ticket)). IsNewThief c.in_ok-lane.lane t.0 t.1) c.in_ok-lane.thieves.items c.pop.new.self.items
    (c.in-Some.thief, c.in-Some.seat) c.in_ok-lane.ensures.thieves c.in-Some.ensures.items in
    last.1

pub gather-requires : goal.gather-requires
gather-requires c =
    let last = of_last (λ (t : Thief Ticket × Pass (Stealing Ticket)). IsNewThief c.in_ok-lane.lane t.0 t.1) c.in_ok-lane.thieves.items c.pop.new.self.items
    (c.in-Some.thief, c.in-Some.seat) c.in_ok-lane.ensures.thieves c.in-Some.ensures.items in
    let home = last.0 in
    search rules
