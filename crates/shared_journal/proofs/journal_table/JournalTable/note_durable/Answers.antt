use Rattle.std.proofs.Common.{◌∙◌, ap, sym, arith}
use mathlib.Core.Option.{none}
use Rattle.atomic_table.specs.Table.{step}
use Rattle.shared_journal.proofs.CountSteps.{notes_durable}
use Rattle.shared_journal.proofs.journal_table.JournalTable.note_durable.Goals as goal

pub fetch_max-requires : goal.fetch_max-requires
fetch_max-requires c = (
  c.requires.table ∙ sym (ap (λ n. n.table) c.self.view_is),
  (let n = c.self.invariant.0 in omega arith),
  notes_durable _ _ _ _ (step c.self.inside.table.shared.table_id.slots 4 c.args.count 0 none) c.args.count c.requires.durable,
)
