use Rattle.std.proofs.Common.{◌≡◌, ℕ, length, slice_index_or}
use Rattle.predecoding.specs.declared.region.Region.TheVariants.{Stack}
use Rattle.verifier.specs.Propagation.{HasPropagated, IsFirst, IsAmong}
use Rattle.verifier.specs.Survey.{IsRegionThere}
use Rattle.verifier.proofs.states.states.Given as goal

abbrev pub invariant-loop-place : goal.invariant-loop-place
invariant-loop-place l = record {
  propagated : HasPropagated (record { need = l.need; helpers = l.helpers; code = l.graph.code }) l.graph.order l.place l.sources l.states.items;
  told : IsFirst (record { need = l.need; helpers = l.helpers; code = l.graph.code }) l.graph.order l.place l.first;
  long : length l.regions.items ≡ length l.graph.code;
  regions : (s : ℕ) → IsAmong l.graph.order l.place s →
      IsRegionThere (record { need = l.need; helpers = l.helpers; code = l.graph.code }) s (slice_index_or l.regions.items s Stack);
}
