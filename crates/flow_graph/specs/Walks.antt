-- Used by private contracts and proofs alone: a walk in depth: what it has met, the path that it is
-- on, and what it is done with.
use Rattle.std.specs.Prelude.{◌≡◌, ◌≢◌, ℕ, ◌+◌, ◌≤◌, ◌<◌, List, [], length, sum_by, slice_index, slice_index_or, reverse}
use Rattle.machine_model.specs.Edges.{Code, Begins}
use Rattle.flow_graph.specs.Cycles.{IsJoint, IsOnCycle}
use Rattle.flow_graph.specs.Flow.{IsIn, IsOrder}
use Rattle.flow_graph.specs.declared.walk.Mark.{Mark}
use Rattle.flow_graph.specs.declared.walk.Mark.TheVariants.{New, Open, Done}
use Rattle.flow_graph.specs.declared.walk.Way.{Way}
use Rattle.flow_graph.specs.declared.walk.Way.TheVariants.{To, Back, Finished}
use Rattle.flow_graph.specs.declared.walk.Walked.{Walked}
use Rattle.flow_graph.specs.declared.walk.Walked.TheVariants.{All, Cycle}

abbrev pub mark_at : List Mark → ℕ → Mark
mark_at marks s = slice_index_or marks s New

-- the list has each slot of this mark once
pub record IsListed (marks : List Mark) (mark : Mark) (list : List ℕ) : Type 0 where
  pub marked : (place : ℕ) → place < length list → mark_at marks (slice_index list place) ≡ mark
  pub each : (s : ℕ) → mark_at marks s ≡ mark → IsIn list s
  pub once : (p q : ℕ) → p < length list → q < length list → slice_index list p ≡ slice_index list q
      → p ≡ q

abbrev pub new_mark : Mark → ℕ
new_mark New = 1
new_mark Open = 0
new_mark Done = 0

-- The path leads along edges, and those from what is done lead to what was done before. Nothing is
-- counted twice.
pub record IsWalk (code : Code) (marks : List Mark) (path done : List ℕ) : Type 0 where
  pub slots : length marks ≡ length code
  pub begins : (s : ℕ) → mark_at marks s ≢ New → Begins code s
  pub walked : IsListed marks Open path
  pub finished : IsListed marks Done done
  pub along : (place : ℕ) → place + 1 < length path
      → IsJoint code (slice_index path place) (slice_index path (place + 1))
  pub behind : (q s : ℕ) → q < length done → IsJoint code (slice_index done q) s → (p : ℕ) × (p < q)
      × (slice_index done p ≡ s)
  pub room : sum_by new_mark marks + length path + length done ≡ length code

-- what was met stays met
abbrev pub IsFurther : List Mark → List Mark → Type 0
IsFurther old new = (s : ℕ) → mark_at old s ≢ New → mark_at new s ≢ New

-- how a walk goes on to a slot with this mark
abbrev pub way_to : Mark → ℕ → Way
way_to New slot = To slot
way_to Open slot = Back slot
way_to Done slot = Finished

-- how a walk goes on from a slot
abbrev pub IsWay : Code → List Mark → ℕ → Way → Type 0
IsWay code marks slot (To next) = IsJoint code slot next × (mark_at marks next ≡ New)
IsWay code marks slot (Back next) = IsJoint code slot next × (mark_at marks next ≡ Open)
IsWay code marks slot Finished = (s : ℕ) → IsJoint code slot s → mark_at marks s ≡ Done

-- the walk is at its end, or at a cycle
abbrev pub HasEnded : Code → List Mark → Walked → Type 0
HasEnded code marks (All walk) =
    IsWalk code walk.marks.items walk.path.items walk.done.items × (walk.path.items ≡ [])
    × IsFurther marks walk.marks.items
HasEnded code marks (Cycle slot) = IsOnCycle code slot

-- at its end the walk has met the slot
abbrev pub HasMet : ℕ → Walked → Type 0
HasMet slot (All walk) = mark_at walk.marks.items slot ≢ New
HasMet slot (Cycle met) = Unit {0}

-- what the walk was done with last stands first in an order, or there is a cycle
abbrev pub HasWalked : Code → Walked → Type 0
HasWalked code (All walk) =
    IsOrder code (reverse walk.done.items) × (length walk.done.items ≤ length code)
HasWalked code (Cycle slot) = IsOnCycle code slot
