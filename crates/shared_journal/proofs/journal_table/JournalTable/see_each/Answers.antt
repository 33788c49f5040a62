use Rattle.std.proofs.Common.{◌∙◌, ap, sym, arith}
use mathlib.Core.Option.{none}
use Rattle.atomic_table.specs.Table.{step}
use Rattle.shared_journal.proofs.CountSteps.{sees_each}
use Rattle.shared_journal.proofs.journal_table.JournalTable.see_each.Goals as goal

pub load-requires : goal.load-requires
load-requires c = (
  c.requires ∙ sym (ap (λ n. n.table) c.self.view_is),
  (let n = c.self.invariant.0 in omega arith),
  sees_each _ _ _ _ (step c.self.inside.table.shared.table_id.slots 3 0 0 none),
)
