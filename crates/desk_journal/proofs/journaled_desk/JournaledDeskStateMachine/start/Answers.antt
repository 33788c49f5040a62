use Rattle.desk_journal.proofs.HeldLemmas.{new_held}
use Rattle.desk_journal.proofs.journaled_desk.JournaledDeskStateMachine.start.Goals as goal

pub invariant_of-result : goal.invariant_of-result
invariant_of-result c = new_held c.new.result c.new-2.result.items c.new-3.result.items c.new.ensures c.new-2.ensures.items c.new-3.ensures.items
