use Rattle.std.proofs.Common.{◌∙◌, ap, sym, arith}
use mathlib.Core.Option.{none}
use Rattle.atomic_table.specs.Table.{step}
use Rattle.shared_journal.proofs.JournalSteps.{copies_log}
use Rattle.shared_journal.proofs.journal_table.JournalTable.return_copied.Goals as goal

pub swap-found-requires : goal.swap-found-requires
swap-found-requires c = let held = c.requires.held in (
  c.requires.table ∙ sym (ap (λ n. n.table) c.self.view_is),
  (let n = c.self.invariant.0 in omega arith),
  copies_log _ _ _ _ (step c.self.inside.table.shared.table_id.slots 1 0 0 none) held.1.0 held.1.1 c.requires.follows.0 c.requires.follows.1 held.0 held.1.2 held.1.3 held.1.4 held.1.5,
)
