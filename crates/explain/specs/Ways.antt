-- Ways along the edges of a program.
use Rattle.std.specs.Prelude.{◌≡◌, ℕ, List, [], ◌∷◌}
use Rattle.machine_model.specs.Edges.{Code}
use Rattle.flow_graph.specs.Cycles.{IsJoint}

-- edges lead from a slot through these in turn, and the last of them is the other slot
abbrev pub IsSlotPath : Code → ℕ → List ℕ → ℕ → Type 0
IsSlotPath code from [] to = from ≡ to
IsSlotPath code from (next ∷ way) to = IsJoint code from next × IsSlotPath code next way to

-- the slots of a way from slot 0 to this one, with both
pub record IsWayTo (code : Code) (slot : ℕ) (way : List ℕ) : Type 0 where
  pub rest : List ℕ
  pub starts : way ≡ 0 ∷ rest
  pub leads : IsSlotPath code 0 rest slot
