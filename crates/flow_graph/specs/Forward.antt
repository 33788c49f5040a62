-- Used by private contracts and proofs alone: programs whose edges all lead to later slots.
use Rattle.std.specs.Prelude.{ℕ, ◌≡◌, ◌<◌, ◌≤◌, List, Bool, length, slice_index}
use Rattle.machine_model.specs.Edges.{Code, Begins}
use Rattle.machine_model.specs.Paths.{IsReached}
use Rattle.flow_graph.specs.Cycles.{IsJoint}
use Rattle.flow_graph.specs.Flow.{IsIn, IsOrder}
use Rattle.flow_graph.specs.Reached.{IsMarked}

-- the list is an order of the program's instructions, and each of them is reached
pub record IsForward (code : Code) (slots : List ℕ) : Type 0 where
  pub order : IsOrder code slots
  pub short : length slots ≤ length code
  pub reached : (s : ℕ) → Begins code s → IsReached code s

-- The list has the slots under n where instructions begin, in their number. Their edges lead to
-- later slots. What is marked is reached.
pub record IsForwardTo (code : Code) (n : ℕ) (marks : List Bool) (order : List ℕ) : Type 0 where
  pub slots : length marks ≡ length code
  pub marked : (s : ℕ) → IsMarked marks s → IsReached code s
  pub begins : (place : ℕ) → place < length order → Begins code (slice_index order place)
  pub below : (place : ℕ) → place < length order → slice_index order place < n
  pub each : (s : ℕ) → s < n → Begins code s → IsIn order s
  pub rising : (p q : ℕ) → p < q → q < length order → slice_index order p < slice_index order q
  pub onward : (p s : ℕ) → p < n → IsJoint code p s → p < s
  pub reached : (s : ℕ) → s < n → Begins code s → IsReached code s
  pub short : length order ≤ n
