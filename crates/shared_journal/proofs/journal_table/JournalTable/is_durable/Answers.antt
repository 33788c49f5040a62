use Rattle.std.proofs.Common.{◌∙◌, ap, sym, arith}
use mathlib.Core.Option.{none}
use Rattle.atomic_table.specs.Table.{step}
use Rattle.shared_journal.proofs.CountSteps.{looks_at_durable}
use Rattle.shared_journal.proofs.journal_table.JournalTable.is_durable.Goals as goal

pub load-requires : goal.load-requires
load-requires c = (
  c.requires.table ∙ sym (ap (λ n. n.table) c.self.view_is),
  (let n = c.self.invariant.0 in omega arith),
  looks_at_durable _ _ _ _ (step c.self.inside.table.shared.table_id.slots 4 0 0 none) c.requires.most,
)
