-- Ways along edges, made longer at their end.
use Rattle.std.proofs.Common.{ℕ, List, [], ◌∷◌, ◌++◌, refl, sym, subst, ap}
use Rattle.machine_model.specs.Edges.{Code}
use Rattle.machine_model.specs.Paths.{IsPathTo}
use Rattle.flow_graph.specs.Cycles.{IsJoint}
use Rattle.explain.specs.Ways.{IsSlotPath, IsWayTo}

way_on : (code : Code) (from at next : ℕ) (way : List ℕ) → IsSlotPath code from way at → IsJoint code at next → IsSlotPath code from (way ++ next ∷ []) next
way_on code from at next [] is joint = (subst (λ (k : ℕ). IsJoint code k next) (sym is) joint, refl)
way_on code from at next (first ∷ way) (edge, rest) joint = (edge, way_on code first at next way rest joint)

pub way_start : (code : Code) → IsWayTo code 0 (0 ∷ [])
way_start code = record { rest = []; starts = refl; leads = refl }

pub way_longer : (code : Code) (at next : ℕ) (way : List ℕ) → IsWayTo code at way → IsJoint code at next → IsWayTo code next (way ++ next ∷ [])
way_longer code at next way w joint = record {
  rest = w.rest ++ next ∷ [];
  starts = ap (λ (l : List ℕ). l ++ next ∷ []) w.starts;
  leads = way_on code 0 at next w.rest w.leads joint;
}

-- a path, of which the last slot comes first, as a way
pub from_path : (code : Code) (path : List ℕ) (s : ℕ) → IsPathTo code path s → (way : List ℕ) × IsSlotPath code 0 way s
from_path code [] s is = ([], sym is)
from_path code (p ∷ path) s (edge, before) =
    let w = from_path code path p before in (w.0 ++ s ∷ [], way_on code 0 p s w.0 w.1 edge)
