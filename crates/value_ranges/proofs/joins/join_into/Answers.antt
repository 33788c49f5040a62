use Rattle.std.proofs.Common.{sym, refl}
use Rattle.value_ranges.proofs.MergeLemmas.{joined_covers}
use Rattle.value_ranges.proofs.joins.join_into.Goals as goal

pub returns-then-stays-clause-covered : goal.returns-then-stays-clause-covered
returns-then-stays-clause-covered c = joined_covers _ _ _ (sym (c.if-stays.ensures refl))

pub returns-clause-covered : goal.returns-clause-covered
returns-clause-covered c = joined_covers _ _ _ c.joined.ensures
