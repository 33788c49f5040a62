-- A program has one refusal at most, but for want of memory.
use Rattle.std.proofs.Common.{◌≡◌, ◌≢◌, ℕ, ◌<◌, ◌⊎◌, Some, None, Option, ap, sym, ◌∙◌, arith, refl, inl, inr}
use Rattle.std.proofs.lemmas.Bool.{cases_lt}
use Rattle.machine_model.specs.Edges.{Code}
use Rattle.flow_graph.specs.declared.fault.FlowFault.{FlowFault}
use Rattle.flow_graph.specs.declared.fault.FlowFault.TheVariants.{JumpOut, IntoWide, Cycle, FallsOff, Unreachable, NoMemory}
use Rattle.flow_graph.specs.Cycles.{IsOnCycle, IsFirstOnCycle}
use Rattle.flow_graph.specs.Faults.{fault_at, IsFirstFault}
use Rattle.flow_graph.specs.Flow.{Flow}
use Rattle.flow_graph.specs.Reached.{IsFirstUnreached}
use Rattle.flow_graph.specs.Refusals.{Refuses, IsBuilt}
use Rattle.flow_graph.proofs.OrderLemmas.{no_cycle}

-- of two numbers with nothing below either
one_least : (s t : ℕ) → (s < t → ⊥) → (t < s → ⊥) → s ≡ t
one_least s t low high = elim (cases_lt s t) [
  | inl less ↦ absurd (low less)
  | inr other ↦ elim (cases_lt t s) [ inl less ↦ absurd (high less) | inr same ↦ omega arith ]
]

told : {P : Type 0} (o : Option FlowFault) (f : FlowFault) → o ≡ Some f → o ≡ None → P
told o f a b = absurd (cc)

same_told : (o : Option FlowFault) (f g : FlowFault) → o ≡ Some f → o ≡ Some g → f ≡ g
same_told o f g a b = cc

abbrev IsAtEdge : Code → FlowFault → Type 0
IsAtEdge code f = (s : ℕ) × IsFirstFault code s f

abbrev IsAtCycle : Code → FlowFault → Type 0
IsAtCycle code f = (s : ℕ) × (f ≡ Cycle s) × ((t : ℕ) → fault_at code t ≡ None) × IsFirstOnCycle code s

abbrev IsUnreached : Code → FlowFault → Type 0
IsUnreached code f =
    (s : ℕ) × (f ≡ Unreachable s) × ((t : ℕ) → fault_at code t ≡ None) × ((t : ℕ) → IsOnCycle code t → ⊥) × IsFirstUnreached code s

kind_of : (code : Code) (f : FlowFault) → Refuses code f → f ≢ NoMemory → IsAtEdge code f ⊎ IsAtCycle code f ⊎ IsUnreached code f
kind_of code (JumpOut s) r ne = inl (s, r)
kind_of code (IntoWide s) r ne = inl (s, r)
kind_of code (FallsOff s) r ne = inl (s, r)
kind_of code (Cycle s) r ne = inr (inl (s, refl, r.0, r.1))
kind_of code (Unreachable s) r ne = inr (inr (s, refl, r.0, r.1, r.2))
kind_of code NoMemory r ne = absurd (ne refl)

edges_same : (code : Code) (f g : FlowFault) → IsAtEdge code f → IsAtEdge code g → f ≡ g
edges_same code f g a b =
    let same : a.0 ≡ b.0 = one_least a.0 b.0 (λ less. told (fault_at code a.0) f a.1.applies (b.1.least a.0 less))
    (λ less. told (fault_at code b.0) g b.1.applies (a.1.least b.0 less)) in
    same_told (fault_at code a.0) f g a.1.applies (ap (fault_at code) same ∙ b.1.applies)

cycles_same : (code : Code) (f g : FlowFault) → IsAtCycle code f → IsAtCycle code g → f ≡ g
cycles_same code f g a b =
    let same : a.0 ≡ b.0 = one_least a.0 b.0 (λ less. b.3.least a.0 less a.3.cycle) (λ less. a.3.least b.0 less b.3.cycle) in
    a.1 ∙ ap Cycle same ∙ sym b.1

unreached_same : (code : Code) (f g : FlowFault) → IsUnreached code f → IsUnreached code g → f ≡ g
unreached_same code f g a b =
    let same : a.0 ≡ b.0 = one_least a.0 b.0 (λ less. a.4.unreached (b.4.least a.0 less a.4.begins))
    (λ less. b.4.unreached (a.4.least b.0 less b.4.begins)) in
    a.1 ∙ ap Unreachable same ∙ sym b.1

pub one_refusal : (code : Code) (f g : FlowFault) → Refuses code f → Refuses code g → f ≢ NoMemory → g ≢ NoMemory → f ≡ g
one_refusal code f g r q fne gne = elim (kind_of code f r fne) [
  | inl edge ↦ elim (kind_of code g q gne) [
    | inl other ↦ edges_same code f g edge other
    | inr others ↦ elim others [
      | inl cycle ↦ told (fault_at code edge.0) f edge.1.applies (cycle.2 edge.0)
      | inr unreached ↦ told (fault_at code edge.0) f edge.1.applies (unreached.2 edge.0)
    ]
  ]
  | inr rest_f ↦ elim rest_f [
    | inl cycle ↦ elim (kind_of code g q gne) [
      | inl edge ↦ told (fault_at code edge.0) g edge.1.applies (cycle.2 edge.0)
      | inr others ↦ elim others [
        | inl other ↦ cycles_same code f g cycle other
        | inr unreached ↦ absurd (unreached.3 cycle.0 cycle.3.cycle)
      ]
    ]
    | inr unreached ↦ elim (kind_of code g q gne) [
      | inl edge ↦ told (fault_at code edge.0) g edge.1.applies (unreached.2 edge.0)
      | inr others ↦ elim others [
        | inl cycle ↦ absurd (unreached.3 cycle.0 cycle.3.cycle)
        | inr other ↦ unreached_same code f g unreached other
      ]
    ]
  ]
]

pub nothing_refused : (code : Code) (graph : Flow) (f : FlowFault) → IsBuilt code graph → Refuses code f → f ≡ NoMemory
nothing_refused code graph (JumpOut s) b r = told (fault_at code s) (JumpOut s) r.applies (b.faultless s)
nothing_refused code graph (IntoWide s) b r = told (fault_at code s) (IntoWide s) r.applies (b.faultless s)
nothing_refused code graph (FallsOff s) b r = told (fault_at code s) (FallsOff s) r.applies (b.faultless s)
nothing_refused code graph (Cycle s) b r = absurd (no_cycle code graph.order s b.order r.1.cycle)
nothing_refused code graph (Unreachable s) b r = absurd (r.2.unreached (b.reached s r.2.begins))
nothing_refused code graph NoMemory b r = refl
