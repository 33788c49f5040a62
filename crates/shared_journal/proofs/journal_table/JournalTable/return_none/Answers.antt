use Rattle.std.proofs.Common.{◌∙◌, ap, sym, arith}
use mathlib.Core.Option.{none}
use Rattle.atomic_table.specs.Table.{step}
use Rattle.shared_journal.proofs.JournalSteps.{takes_each}
use Rattle.shared_journal.proofs.journal_table.JournalTable.return_none.Goals as goal

pub swap-found-requires : goal.swap-found-requires
swap-found-requires c = let held = c.requires.held in (
  c.requires.table ∙ sym (ap (λ n. n.table) c.self.view_is),
  (let n = c.self.invariant.0 in omega arith),
  takes_each _ _ _ _ (step c.self.inside.table.shared.table_id.slots 0 0 0 none) held.0 c.requires.log.0 c.requires.log.1 held.1 held.2 c.requires.counted,
)
