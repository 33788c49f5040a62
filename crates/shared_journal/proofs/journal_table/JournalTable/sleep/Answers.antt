use Rattle.std.proofs.Common.{◌∙◌, ◌⊎◌, inl, inr, ap, sym, ◌<◌, ◌≡◌, arith}
use mathlib.Core.Option.{none}
use Rattle.atomic_table.specs.Table.{step}
use Rattle.shared_journal.proofs.JournalSteps.{marks}
use Rattle.shared_journal.proofs.journal_table.JournalTable.sleep.Goals as goal

pub compare_exchange-found-requires : goal.compare_exchange-found-requires
compare_exchange-found-requires g c = (
  c.requires.table ∙ sym (ap (λ n. n.table) c.self.view_is),
  below c.requires.word,
  marks _ _ _ _ (step c.self.inside.table.shared.table_id.slots c.args.word 1 2 none) c.args.word c.requires.word,
)
  where
    below : (c.args.word ≡ 0) ⊎ (c.args.word ≡ 1) → c.args.word < c.self.inside.table.shared.table_id.words
    below (inl is) = let n = c.self.invariant.0 in omega (arith, is)
    below (inr is) = let n = c.self.invariant.0 in omega (arith, is)
