use Rattle.std.proofs.Common.{◌∙◌, ap, sym, arith}
use mathlib.Core.Option.{none}
use Rattle.atomic_table.specs.Table.{step}
use Rattle.shared_journal.proofs.JournalSteps.{adds_record, own_record}
use Rattle.shared_journal.proofs.journal_table.JournalTable.return_record.Goals as goal

pub swap-found-requires : goal.swap-found-requires
swap-found-requires c = let held = c.requires.held in (
  c.requires.table ∙ sym (ap (λ n. n.table) c.self.view_is),
  (let n = c.self.invariant.0 in omega arith),
  adds_record _ _ _ _ (step c.self.inside.table.shared.table_id.slots 0 0 0 none) held.1.0 c.args.bytes.now c.requires.is_seat held.0 held.1.1 held.1.2 c.requires.counted,
)

pub returns-clause-own : goal.returns-clause-own
returns-clause-own c =
    let held = c.requires.held in
    (own_record _ _ _ _ held.1.0 c.args.bytes.now held.1.1 held.1.2 c.swap-found.ensures.2).0

pub returns-clause-given : goal.returns-clause-given
returns-clause-given c =
    let held = c.requires.held in
    (own_record _ _ _ _ held.1.0 c.args.bytes.now held.1.1 held.1.2 c.swap-found.ensures.2).1
