use Rattle.desk_journal.proofs.HeldLemmas.{held_forgotten}
use Rattle.desk_journal.proofs.journaled_desk.JournaledDesk.forget.Goals as goal

pub invariant_of-self : goal.invariant_of-self
invariant_of-self c =
    held_forgotten 1 c.args.ahead c.self.inside.desk.jobs c.forget.new.self.jobs c.self.inside.held.items c.self.inside.sources.items c.self.invariant c.forget.ensures.jobs
