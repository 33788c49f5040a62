use Rattle.desk_journal.proofs.HeldLemmas.{recalled_held}
use Rattle.desk_journal.proofs.journaled_desk.JournaledDesk.put_back.Goals as goal

pub invariant_of-self : goal.invariant_of-self
invariant_of-self c =
    recalled_held c.self.inside.desk c.recall.new.self c.in-Ok.name.now c.args.credit c.args.standing c.self.inside.held.items c.self.inside.sources.items c.recall.result c.recall.ensures.recalled c.recall.ensures.unchanged c.self.invariant
