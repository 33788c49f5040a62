-- Which slots a path leads to.
use Rattle.std.specs.Prelude.{◌≡◌, ◌⊎◌, ℕ, ◌<◌, ◌+◌, ◌*◌, ◌≤◌, List, length, sum_by, Bool, true, false, slice_index_or}
use Rattle.machine_model.specs.Edges.{Code, Begins}
use Rattle.machine_model.specs.Paths.{IsReached}
use Rattle.flow_graph.specs.Cycles.{IsJoint, IsPath}
use Rattle.flow_graph.specs.Flow.{IsIn}

abbrev pub IsMarked : List Bool → ℕ → Type 0
IsMarked marks s = slice_index_or marks s false ≡ true

-- the marks stand at the slots that a path of one edge or more leads to
pub record AreAhead (code : Code) (from : ℕ) (marks : List Bool) : Type 0 where
  pub slots : length marks ≡ length code
  pub ahead : (s : ℕ) → IsMarked marks s → (path : List ℕ) × IsPath code from path s
  pub each : (path : List ℕ) (s : ℕ) → IsPath code from path s → IsMarked marks s

abbrev pub left_mark : Bool → ℕ
left_mark false = 1
left_mark true = 0

-- Such marks in the making: edges from marked slots and from the first end in marked ones, but for
-- those from pending slots.
pub record AreSpread (code : Code) (from : ℕ) (marks : List Bool) (pending : List ℕ) : Type 0 where
  pub slots : length marks ≡ length code
  pub ahead : (s : ℕ) → IsMarked marks s → (path : List ℕ) × IsPath code from path s
  pub source : (s : ℕ) → IsIn pending s → (s ≡ from) ⊎ IsMarked marks s
  pub onward : (p : ℕ) → (p ≡ from) ⊎ IsMarked marks p → IsIn pending p
      ⊎ ((s : ℕ) → IsJoint code p s → IsMarked marks s)

-- The slot is marked, and pending where it wasn't marked before. Nothing else has changed.
pub record IsMarkedOn (marks new : List Bool) (pending later : List ℕ) (slot : ℕ) : Type 0 where
  pub slots : length new ≡ length marks
  pub here : IsMarked new slot
  pub kept : (s : ℕ) → IsMarked marks s → IsMarked new s
  pub only : (s : ℕ) → IsMarked new s → IsMarked marks s ⊎ ((s ≡ slot) × IsIn later s)
  pub still : (s : ℕ) → IsIn pending s → IsIn later s
  pub from : (s : ℕ) → IsIn later s → IsIn pending s ⊎ (s ≡ slot)
  pub room : 2 * sum_by left_mark new + length later ≤ 2 * sum_by left_mark marks + length pending

-- the slot is the lowest instruction that no path from slot 0 leads to
pub record IsFirstUnreached (code : Code) (slot : ℕ) : Type 0 where
  pub begins : Begins code slot
  pub unreached : IsReached code slot → ⊥
  pub least : (s : ℕ) → s < slot → Begins code s → IsReached code s
