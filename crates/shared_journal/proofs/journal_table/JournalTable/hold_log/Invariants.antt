use Rattle.std.proofs.Common.{◌≡◌}
use Rattle.shared_journal.proofs.journal_table.JournalTable.hold_log.Given as goal

-- the lock was not free so far, and nothing changed
abbrev pub invariant-loop : goal.invariant-loop
invariant-loop g l =
    (goal.iterator-loop g).can_next l.iterator' × (goal.iterator-loop g).is_finite l.iterator'
    × (l.seat.table_id ≡ l.fn.seat.table_id) × (l.seat.id ≡ l.fn.seat.id)
    × (l.seat.me ≡ l.fn.seat.me)
