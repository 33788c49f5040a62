-- Used by private contracts and proofs alone: numbers of the slots along the edges.
use Rattle.std.specs.Prelude.{ℕ, ◌≤◌, ◌<◌, List, slice_index}
use Rattle.machine_model.specs.Edges.{Code}
use Rattle.flow_graph.specs.Cycles.{IsJoint}

abbrev pub number_at : List ℕ → ℕ → ℕ
number_at numbers s = slice_index numbers s

-- no edge from the slot leads to a smaller number
abbrev pub LeadsOn : Code → List ℕ → ℕ → Type 0
LeadsOn code numbers p = (s : ℕ) → IsJoint code p s → number_at numbers p ≤ number_at numbers s

-- no edge at all does
abbrev pub NeverFall : Code → List ℕ → Type 0
NeverFall code numbers = (p : ℕ) → LeadsOn code numbers p

-- each edge from the slot leads to a larger number
abbrev pub LeadsUp : Code → List ℕ → ℕ → Type 0
LeadsUp code numbers p = (s : ℕ) → IsJoint code p s → number_at numbers p < number_at numbers s
