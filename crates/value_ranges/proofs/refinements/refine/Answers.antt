use Rattle.value_ranges.proofs.MergeLemmas.{refined_covers}
use Rattle.value_ranges.proofs.refinements.refine.Goals as goal

pub returns-clause-covered : goal.returns-clause-covered
returns-clause-covered c = refined_covers _ _ _ _ _ c.refined_by.ensures
