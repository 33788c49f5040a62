use Rattle.flow_graph.specs.Places.{ArePlaces}
use Rattle.flow_graph.proofs.ordering.places_of.Given as goal

abbrev pub invariant-loop-place : goal.invariant-loop-place
invariant-loop-place l = ArePlaces l.code l.order l.places.items l.place
