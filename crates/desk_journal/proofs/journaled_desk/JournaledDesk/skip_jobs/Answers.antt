use Rattle.desk_journal.proofs.HeldLemmas.{skipped_held}
use Rattle.desk_journal.proofs.journaled_desk.JournaledDesk.skip_jobs.Goals as goal

pub invariant_of-self : goal.invariant_of-self
invariant_of-self c =
    skipped_held c.self.inside.desk c.add_gone.new.self c.args.count c.self.inside.held.items c.self.inside.sources.items c.add_gone.result c.add_gone.ensures.added c.add_gone.ensures.unchanged c.self.invariant
