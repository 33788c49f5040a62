use Rattle.std.proofs.Common.{◌∙◌, ap, sym, arith}
use Rattle.shared_journal.proofs.NoteSteps.{leaves_note}
use Rattle.shared_journal.proofs.journal_table.JournalTable.note.Goals as goal

pub split_seat-noted-requires : goal.split_seat-noted-requires
split_seat-noted-requires c = (
  ap (λ n. n.table) (ap (λ k. k.journal) c.seat.view_is ∙ (c.requires ∙ sym c.self.view_is)),
  (let n = c.self.invariant.0 in omega arith),
  leaves_note _ _ _ c.seat.invariant.0 c.seat.invariant.1,
)
