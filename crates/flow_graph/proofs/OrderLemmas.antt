-- Along a path the place in an order grows, so that none leads back.
use Rattle.std.proofs.Common.{◌≡◌, ℕ, ◌<◌, List, [], ◌∷◌, Option, Some, None, slice_index, sym, ap, arith, refl, subst}
use Rattle.std.specs.Prelude.{option_and_then}
use Rattle.insn_codec.specs.declared.insn.Insn.{Insn}
use Rattle.machine_model.specs.Edges.{Code, Fact, IsEdge, Begins, insn_at, leads, leads_at}
use Rattle.flow_graph.specs.Cycles.{IsJoint, IsPath, IsOnCycle}
use Rattle.flow_graph.specs.Flow.{IsIn, IsOrder}

edge_from : (code : Code) (p : ℕ) (fact : Fact) (s : ℕ) (o : Option Insn) → insn_at code p ≡ o → IsEdge code p fact s → Begins code p
edge_from code p fact s None e edge =
    let l : leads_at code p fact ≡ None = ap (λ (q : Option Insn). option_and_then (λ i. leads i p fact) q) e in absurd (cc)
edge_from code p fact s (Some i) e edge = (i, e)

-- an edge leaves an instruction
pub joint_begins : (code : Code) (p s : ℕ) → IsJoint code p s → Begins code p
joint_begins code p s joint = edge_from code p joint.0 s (insn_at code p) refl joint.1

pub path_begins : (code : Code) (from : ℕ) (path : List ℕ) (s : ℕ) → IsPath code from path s → Begins code from
path_begins code from [] s h = joint_begins code from s h
path_begins code from (p ∷ path) s h = path_begins code from path p h.1

joint_onward : (code : Code) (order : List ℕ) (p s : ℕ) → IsOrder code order → IsJoint code p s → (i : IsIn order p) → (j : IsIn order s) → i.0 < j.0
joint_onward code order p s o joint i j =
    o.onward i.0 j.0 joint.0 i.1 j.1
    (subst (λ (q : ℕ). IsEdge code q joint.0 (slice_index order j.0)) (sym i.2) (subst (IsEdge code p joint.0) (sym j.2) joint.1))

pub path_onward : (code : Code) (order : List ℕ) → IsOrder code order → (from : ℕ) (path : List ℕ) (s : ℕ) → IsPath code from path s →
    (i : IsIn order from) → (j : IsIn order s) → i.0 < j.0
path_onward code order o from [] s h i j = joint_onward code order from s o h i j
path_onward code order o from (p ∷ path) s h i j =
    let k = o.each p (joint_begins code p s h.0) in
    let before : i.0 < k.0 = path_onward code order o from path p h.1 i k in
    let last : k.0 < j.0 = joint_onward code order p s o h.0 k j in
    omega arith

pub no_cycle : (code : Code) (order : List ℕ) (slot : ℕ) → IsOrder code order → IsOnCycle code slot → ⊥
no_cycle code order slot o cycle =
    let i = o.each slot (path_begins code slot cycle.0 slot cycle.1) in
    let less : i.0 < i.0 = path_onward code order o slot cycle.0 slot cycle.1 i i in
    omega arith
