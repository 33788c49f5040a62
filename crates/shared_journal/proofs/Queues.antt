-- A queue whose seat knows what it knew is the same queue.
use Rattle.std.proofs.Common.{◌≡◌, ℕ, List, sym, subst}
use Rattle.std.proofs.Props.{props}
use Rattle.shared_journal.specs.declared.journal_queue.JournalQueue.{JournalQueue}
use Rattle.shared_journal.specs.declared.seat_views.JournalEntry.{JournalEntry}
use Rattle.shared_journal.specs.JournalHistories.{JournalKnowledge, JournalName, entries_by, journal_bytes}

name_set : IsSet JournalName
name_set = hlevel props

bytes_set : IsSet (List ℕ)
bytes_set = hlevel props

entries_set : IsSet (List JournalEntry)
entries_set = hlevel props

pub same_queue : {R : Type 0} (q : JournalQueue R) (k : JournalKnowledge) → k ≡ q.seat
    → (own : k.journal ≡ q.journal.now.history) (in_order : journal_bytes k.own ≡ q.taken.bytes) (seen : entries_by k.number k.seen ≡ k.own)
    → ◌≡◌ {A = JournalQueue R} (record { rt = q.rt; journal = q.journal; seat = k; taken = q.taken; was_told = q.was_told; own = own; in_order = in_order; seen = seen }) q
same_queue {R} q k is =
    subst
    (λ (m : JournalKnowledge). (own : m.journal ≡ q.journal.now.history) (in_order : journal_bytes m.own ≡ q.taken.bytes) (seen : entries_by m.number m.seen ≡ m.own)
    → ◌≡◌ {A = JournalQueue R} (record { rt = q.rt; journal = q.journal; seat = m; taken = q.taken; was_told = q.was_told; own = own; in_order = in_order; seen = seen }) q)
    (sym is)
    (λ own in_order seen i. record { rt = q.rt; journal = q.journal; seat = q.seat; taken = q.taken; was_told = q.was_told; own = name_set _ _ own q.own i; in_order = bytes_set _ _ in_order q.in_order i; seen = entries_set _ _ seen q.seen i })
