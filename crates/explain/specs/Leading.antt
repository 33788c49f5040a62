-- Used by private contracts and proofs alone: marks at the slots that lead to a slot.
use Rattle.std.specs.Prelude.{◌≡◌, ◌⊎◌, ℕ, ◌≤◌, ◌<◌, List, length, slice_index, Bool}
use Rattle.machine_model.specs.Edges.{Code}
use Rattle.flow_graph.specs.Cycles.{IsJoint}
use Rattle.flow_graph.specs.Reached.{IsMarked}
use Rattle.explain.specs.Ways.{IsSlotPath, IsWayTo}

-- a way leads from the one slot to the other
abbrev pub HasPath : Code → ℕ → ℕ → Type 0
HasPath code from to = (way : List ℕ) × IsSlotPath code from way to

-- an edge leads from the slot to a marked one
abbrev pub LeadsToMarked : Code → List Bool → ℕ → Type 0
LeadsToMarked code marks from = (next : ℕ) × IsJoint code from next × IsMarked marks next

-- slot 0 is marked, and from each marked slot but this one an edge leads to a marked one
pub record AreLeading (code : Code) (slot : ℕ) (marks : List Bool) : Type 0 where
  pub slots : length marks ≡ length code
  pub first : IsMarked marks 0
  pub onward : (s : ℕ) → IsMarked marks s → (s ≡ slot) ⊎ LeadsToMarked code marks s

-- the same in the making: marked are the slots from this place of the order on that lead there
pub record LeadFrom (code : Code) (order : List ℕ) (slot place : ℕ) (marks : List Bool) :
    Type 0 where
  pub slots : length marks ≡ length code
  pub here : IsMarked marks slot
  pub onward : (s : ℕ) → IsMarked marks s → (s ≡ slot) ⊎ LeadsToMarked code marks s
  pub each : (q : ℕ) → place ≤ q → q < length order → HasPath code (slice_index order q) slot
      → IsMarked marks (slice_index order q)

-- the slot stands at this place of the order or at a later one
abbrev pub IsAhead : List ℕ → ℕ → ℕ → Type 0
IsAhead order place slot =
    (q : ℕ) × (place ≤ q) × (q < length order) × (slice_index order q ≡ slot)

-- a way in the making: it has come to a marked slot, which is the one that is looked for, or stands
-- at this place of the order or a later one
pub record HasComeTo (code : Code) (order : List ℕ) (marks : List Bool) (slot place : ℕ)
    (way : List ℕ) (at : ℕ) : Type 0 where
  pub comes : IsWayTo code at way
  pub marked : IsMarked marks at
  pub ahead : (at ≡ slot) ⊎ IsAhead order place at
