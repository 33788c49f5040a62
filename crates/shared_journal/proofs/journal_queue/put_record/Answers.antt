use Rattle.std.proofs.Common.{◌++◌, sym, ap, ◌∙◌}
use Rattle.shared_journal.specs.JournalHistories.{entry_by, journal_bytes}
use Rattle.shared_journal.proofs.JournalLists.{bytes_more}
use Rattle.shared_journal.proofs.journal_queue.put_record.Goals as goal

pub returns-clause-order : goal.returns-clause-order
returns-clause-order g c =
    ap journal_bytes c.in_ok-add.ensures.ok.more
    ∙ (bytes_more c.args.seat.now.own (entry_by c.args.seat.now c.args.bytes.now) ∙ (ap (λ l. l ++ c.args.bytes.now) c.requires.order ∙ sym c.then.ensures))
