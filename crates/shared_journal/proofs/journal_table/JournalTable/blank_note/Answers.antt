use Rattle.std.proofs.Common.{[], refl, arith}
use mathlib.Core.Option.{none}
use Rattle.journal_file.specs.FileLogs.{file_state}
use Rattle.shared_journal.specs.JournalRule.{journal_founder}
use Rattle.atomic_table.specs.Table.{step}
use Rattle.shared_journal.proofs.NoteSteps.{begins_note}
use Rattle.shared_journal.proofs.journal_table.JournalTable.blank_note.Goals as goal

pub load_new_seat-seat-requires : goal.load_new_seat-seat-requires
load_new_seat-seat-requires c = (
  (let n = c.self.invariant.0 in omega arith),
  begins_note _ _ (step c.self.inside.table.shared.table_id.slots 2 0 0 none) (journal_founder (file_state c.self.inside.table.shared.key.value).durable, []) refl,
)
