-- The slots that lead to a slot, one after the other.
use Rattle.std.specs.Prelude.{◌≡◌, ℕ, suc, ◌+◌, ◌-◌, ◌≤◌, ◌<◌, ◌==◌, List, length, slice_index_or, Option, Some, None, if◌then◌else◌}
use Rattle.machine_model.specs.Edges.{Code}
use Rattle.flow_graph.specs.Cycles.{IsJoint}
use Rattle.flow_graph.specs.Flow.{AreNext}
use Rattle.flow_graph.specs.declared.graph.Next.{Next}
use Rattle.flow_graph.specs.declared.graph.Next.TheVariants.{Zero, One, Two}
use Rattle.verifier.specs.Merges.{edges_below, edges_into}

-- this is the lowest slot from n on that leads to s, if there is one
abbrev pub IsNextSource : Code → ℕ → ℕ → Option ℕ → Type 0
IsNextSource code s n None = (p : ℕ) → n ≤ p → IsJoint code p s → ⊥
IsNextSource code s n (Some q) =
    (n ≤ q) × IsJoint code q s × ((p : ℕ) → n ≤ p → p < q → IsJoint code p s → ⊥)

-- The lowest slot that leads to each slot; and by each slot the next one that leads where its edge
-- to the following slot, or its only one, does, and the next one that leads where its jump does;
-- and how many edges lead to each slot.
pub record Links : Type 0 where
  pub first : List (Option ℕ)
  pub following : List (Option ℕ)
  pub taken : List (Option ℕ)
  pub edges : List ℕ

-- the next slot after p that leads to s, where p leads there by one of these edges
abbrev pub link_of : Links → Next → ℕ → ℕ → Option ℕ
link_of links Zero p s = None
link_of links (One to) p s = slice_index_or links.following p None
link_of links (Two following to) p s =
    if following == s then slice_index_or links.following p None
    else slice_index_or links.taken p None

-- the slots from n on are linked, and their edges counted
pub record AreLinked (code : Code) (links : Links) (n : ℕ) : Type 0 where
  pub firsts : length links.first ≡ length code
  pub followings : length links.following ≡ length code
  pub takens : length links.taken ≡ length code
  pub counts : length links.edges ≡ length code
  pub first : (s : ℕ) → s < length code → IsNextSource code s n (slice_index_or links.first s None)
  pub after : (p s : ℕ) (next : Next) → n ≤ p → AreNext code p next → IsJoint code p s →
      IsNextSource code s (suc p) (link_of links next p s)
  pub counted : (s : ℕ) → s < length code
      → slice_index_or links.edges s 0 + edges_below code s n ≡ edges_into code s

-- each slot is linked to the next one that leads where it does, and all edges are counted
pub record IsLinked (code : Code) (links : Links) : Type 0 where
  pub firsts : length links.first ≡ length code
  pub followings : length links.following ≡ length code
  pub takens : length links.taken ≡ length code
  pub counts : length links.edges ≡ length code
  pub after : (p s : ℕ) (next : Next) → AreNext code p next → IsJoint code p s
      → IsNextSource code s (suc p) (link_of links next p s)
  pub counted : (s : ℕ) → s < length code → slice_index_or links.edges s 0 ≡ edges_into code s

-- how many slots are left from this one on
abbrev pub slots_left : ℕ → Option ℕ → ℕ
slots_left slots None = 0
slots_left slots (Some slot) = suc slots - slot
