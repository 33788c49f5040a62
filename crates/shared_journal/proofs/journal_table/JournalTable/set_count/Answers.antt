use Rattle.std.proofs.Common.{◌∙◌, ap, sym, arith}
use mathlib.Core.Option.{none}
use Rattle.atomic_table.specs.Table.{step}
use Rattle.shared_journal.proofs.CountSteps.{counts_records}
use Rattle.shared_journal.proofs.journal_table.JournalTable.set_count.Goals as goal

pub store-requires : goal.store-requires
store-requires c = (
  c.requires.table ∙ sym (ap (λ n. n.table) c.self.view_is),
  (let n = c.self.invariant.0 in omega arith),
  counts_records _ _ _ _ (step c.self.inside.table.shared.table_id.slots 3 c.args.count 0 none) c.args.count c.requires.held c.requires.most,
)
