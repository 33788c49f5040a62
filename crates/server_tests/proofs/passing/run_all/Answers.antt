use Rattle.credit_book.specs.declared.task.Ticket.{Ticket}
use Rattle.lanes.specs.declared.deque.Pass.{Pass}
use Rattle.lanes.specs.declared.deque.Stealing.{Stealing}
use Rattle.lanes.specs.declared.deque.Thief.{Thief}
use Rattle.lanes.specs.Passes.{IsGuest}
use Rattle.server_tests.proofs.LastOnes.{of_last, of_first}
use Rattle.server_tests.proofs.passing.run_all.Goals as goal

pub invariant_of-start : goal.invariant_of-start
invariant_of-start g c =
    of_last (λ (t : Thief Ticket × Pass (Stealing Ticket)). IsGuest t.0 t.1) _ c.pop.new.self.items c.in-Some.pair c.loop-pair.invariant c.in-Some.ensures.items

pub loop-pair-preserved : goal.loop-pair-preserved
loop-pair-preserved g c =
    of_first (λ (t : Thief Ticket × Pass (Stealing Ticket)). IsGuest t.0 t.1) _ c.pop.new.self.items c.in-Some.pair c.loop-pair.invariant c.in-Some.ensures.items
