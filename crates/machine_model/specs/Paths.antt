-- Paths through a program, which slots they reach, and what they cost.
use Rattle.std.specs.Prelude.{◌≡◌, ℕ, ◌≤◌, List, [], ◌∷◌, length, sum_by, slice_index, Option, Some, None}
use Rattle.insn_codec.specs.declared.insn.Insn.{Insn}
use Rattle.insn_codec.specs.declared.insn.Insn.TheVariants.{Exit}
use Rattle.machine_model.specs.Edges.{Code, Fact, IsEdge, Begins, insn_at, price}

-- a path from slot 0 to the slot through these slots, the last of them first
abbrev pub IsPathTo : Code → List ℕ → ℕ → Type 0
IsPathTo code [] s = s ≡ 0
IsPathTo code (p ∷ path) s = ((fact : Fact) × IsEdge code p fact s) × IsPathTo code path p

abbrev pub IsReached : Code → ℕ → Type 0
IsReached code s = (path : List ℕ) × IsPathTo code path s

-- a path from the slot through these slots in turn, joined by edges, to an exit
abbrev pub IsExitPath : Code → ℕ → List ℕ → Type 0
IsExitPath code p [] = insn_at code p ≡ Some Exit
IsExitPath code p (s ∷ path) = ((fact : Fact) × IsEdge code p fact s) × IsExitPath code s path

abbrev pub price_of : Option Insn → ℕ
price_of (Some i) = price i
price_of None = 0

abbrev pub price_at : Code → ℕ → ℕ
price_at code slot = price_of (insn_at code slot)

-- the sum of the prices along a path
abbrev pub path_price : Code → ℕ → List ℕ → ℕ
path_price code slot path = sum_by (price_at code) (slot ∷ path)

-- the greatest sum of prices over all paths from the slot to an exit
pub record IsCost (code : Code) (slot : ℕ) (cost : ℕ) : Type 0 where
  pub greatest : (path : List ℕ) → IsExitPath code slot path → path_price code slot path ≤ cost
  pub attained : (path : List ℕ) × IsExitPath code slot path × (path_price code slot path ≡ cost)

-- the list has the cost of each slot where an instruction begins
pub record AreCosts (code : Code) (costs : List ℕ) : Type 0 where
  pub slots : length costs ≡ length code
  pub each : (slot : ℕ) → Begins code slot → IsCost code slot (slice_index costs slot)
