use Rattle.shared_journal.proofs.Queues.{same_queue}
use Rattle.shared_journal.proofs.journal_queue.JournalQueueNotedJournalNote.note.Goals as goal

pub returns-clause-same : goal.returns-clause-same
returns-clause-same g c = same_queue c.args.self.now c.of.new.seat c.of.ensures.same _ _ _
