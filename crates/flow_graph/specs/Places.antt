-- Used by private contracts and proofs alone: where the slots of an order stand in it.
use Rattle.std.specs.Prelude.{◌≡◌, ℕ, ◌<◌, List, length, slice_index, slice_index_or, Option, Some, None}
use Rattle.machine_model.specs.Edges.{Code, Begins}
use Rattle.flow_graph.specs.Cycles.{IsJoint}

abbrev pub place_at : List (Option ℕ) → ℕ → Option ℕ
place_at places slot = slice_index_or places slot None

-- the table has the place of each slot that stands in the first n places, none twice, and
-- instructions begin there
pub record ArePlaces (code : Code) (order : List ℕ) (places : List (Option ℕ)) (n : ℕ) :
    Type 0 where
  pub slots : length places ≡ length code
  pub begins : (place : ℕ) → place < n → Begins code (slice_index order place)
  pub at : (place : ℕ) → place < n → place_at places (slice_index order place) ≡ Some place
  pub stands : (slot place : ℕ) → place_at places slot ≡ Some place
      → (place < n) × (slice_index order place ≡ slot)

abbrev pub IsBefore : Option ℕ → Option ℕ → Type 0
IsBefore (Some place) (Some later) = place < later
IsBefore (Some place) None = ⊥
IsBefore None later = ⊥

-- the slot has a place, and each of its edges leads to a later one
pub record IsPlaced (code : Code) (places : List (Option ℕ)) (slot : ℕ) : Type 0 where
  pub place : (place : ℕ) × (place_at places slot ≡ Some place)
  pub onward : (s : ℕ) → IsJoint code slot s → IsBefore (place_at places slot) (place_at places s)
