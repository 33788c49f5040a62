-- Used by private contracts and proofs alone: a table of costs that is filled along an order, from
-- its last place down.
use Rattle.std.specs.Prelude.{◌≡◌, ℕ, ◌+◌, ◌*◌, ◌≤◌, ◌<◌, List, length, slice_index}
use Rattle.machine_model.specs.Paths.{IsCost}
use Rattle.flow_graph.specs.Flow.{Flow}

-- the table has the cost of the slot at each place from this one on, none over 32 for each place
-- after it
pub record AreCostsFrom (flow : Flow) (table : List ℕ) (from : ℕ) : Type 0 where
  pub slots : length table ≡ length flow.code
  pub each : (place : ℕ) → from ≤ place → place < length flow.order →
      IsCost flow.code (slice_index flow.order place)
      (slice_index table (slice_index flow.order place))
  pub few : (place : ℕ) → from ≤ place → place < length flow.order →
      slice_index table (slice_index flow.order place) + 32 * place ≤ 32 * length flow.order
