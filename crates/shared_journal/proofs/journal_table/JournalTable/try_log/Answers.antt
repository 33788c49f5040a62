use Rattle.std.proofs.Common.{◌∙◌, ap, sym, arith}
use mathlib.Core.Option.{none}
use Rattle.atomic_table.specs.Table.{step}
use Rattle.shared_journal.proofs.JournalSteps.{tries_log}
use Rattle.shared_journal.proofs.journal_table.JournalTable.try_log.Goals as goal

pub compare_exchange-requires : goal.compare_exchange-requires
compare_exchange-requires c = (
  c.requires ∙ sym (ap (λ n. n.table) c.self.view_is),
  (let n = c.self.invariant.0 in omega arith),
  tries_log _ _ _ _ (step c.self.inside.table.shared.table_id.slots 1 0 1 none) 1 (λ e. absurd (omega (arith, e))),
)
