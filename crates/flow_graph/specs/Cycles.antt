-- Paths of edges that lead back to where they begin.
use Rattle.std.specs.Prelude.{ℕ, ◌<◌, List, [], ◌∷◌}
use Rattle.machine_model.specs.Edges.{Code, Fact, IsEdge}

-- an edge leads from slot p to slot s
abbrev pub IsJoint : Code → ℕ → ℕ → Type 0
IsJoint code p s = (fact : Fact) × IsEdge code p fact s

-- a path of one edge or more from a slot to another through these slots, the last of them first
abbrev pub IsPath : Code → ℕ → List ℕ → ℕ → Type 0
IsPath code from [] s = IsJoint code from s
IsPath code from (p ∷ path) s = IsJoint code p s × IsPath code from path p

-- a path of one edge or more leads from the slot back to it
abbrev pub IsOnCycle : Code → ℕ → Type 0
IsOnCycle code slot = (path : List ℕ) × IsPath code slot path slot

-- the slot is the lowest that is on a cycle
pub record IsFirstOnCycle (code : Code) (slot : ℕ) : Type 0 where
  pub cycle : IsOnCycle code slot
  pub least : (s : ℕ) → s < slot → IsOnCycle code s → ⊥
