use Rattle.value_ranges.proofs.MergeLemmas.{joined_covers}
use Rattle.value_ranges.proofs.joins.join.Goals as goal

pub returns-clause-covered : goal.returns-clause-covered
returns-clause-covered c = joined_covers _ _ _ c.joined.ensures
