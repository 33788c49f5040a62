use Rattle.std.proofs.Common.{ap}
use Rattle.value_ranges.proofs.TidyLemmas.{hull_tidy, join_hull, join_swap, join_turn}
use Rattle.value_ranges.proofs.laws.joins_are_hulls.Goals as goal
use Rattle.value_ranges.specs.declared.abs.Abs.TheVariants.{Num}

pub returns-clause-hull : goal.returns-clause-hull
returns-clause-hull c = λ a b s t. ap Num (join_hull a b s t)

pub returns-clause-tidy : goal.returns-clause-tidy
returns-clause-tidy c = hull_tidy

pub returns-clause-swapped : goal.returns-clause-swapped
returns-clause-swapped c = join_swap

pub returns-clause-order : goal.returns-clause-order
returns-clause-order c = join_turn
