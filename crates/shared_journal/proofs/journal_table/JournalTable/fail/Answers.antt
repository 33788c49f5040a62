use Rattle.std.proofs.Common.{◌∙◌, ap, sym, arith}
use mathlib.Core.Option.{none}
use Rattle.atomic_table.specs.Table.{step}
use Rattle.shared_journal.proofs.JournalSteps.{fails_it}
use Rattle.shared_journal.proofs.journal_table.JournalTable.fail.Goals as goal

pub store-requires : goal.store-requires
store-requires c = (
  c.requires ∙ sym (ap (λ n. n.table) c.self.view_is),
  (let n = c.self.invariant.0 in omega arith),
  fails_it _ _ _ _ (step c.self.inside.table.shared.table_id.slots 2 1 0 none),
)
