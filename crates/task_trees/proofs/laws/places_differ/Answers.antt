use Rattle.task_trees.proofs.PlaceLemmas.{run_places}
use Rattle.task_trees.proofs.laws.places_differ.Goals as goal

pub returns : goal.returns
returns c = run_places
