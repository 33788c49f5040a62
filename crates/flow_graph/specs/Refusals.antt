-- When `build` refuses a program, and what holds of one that it takes.
use Rattle.std.specs.Prelude.{◌≡◌, ℕ, None}
use Rattle.machine_model.specs.Edges.{Code, Begins}
use Rattle.machine_model.specs.Paths.{IsReached}
use Rattle.flow_graph.specs.declared.fault.FlowFault.{FlowFault}
use Rattle.flow_graph.specs.declared.fault.FlowFault.TheVariants.{JumpOut, IntoWide, Cycle, FallsOff, Unreachable, NoMemory}
use Rattle.flow_graph.specs.Cycles.{IsOnCycle, IsFirstOnCycle}
use Rattle.flow_graph.specs.Faults.{fault_at, IsFirstFault}
use Rattle.flow_graph.specs.Flow.{Flow, IsOrder}
use Rattle.flow_graph.specs.Reached.{IsFirstUnreached}

-- the first fault of an edge; where there is none, the first slot on a cycle; where there is none,
-- the first instruction that isn't reached
abbrev pub Refuses : Code → FlowFault → Type 0
Refuses code (JumpOut slot) = IsFirstFault code slot (JumpOut slot)
Refuses code (IntoWide slot) = IsFirstFault code slot (IntoWide slot)
Refuses code (FallsOff slot) = IsFirstFault code slot (FallsOff slot)
Refuses code (Cycle slot) = ((s : ℕ) → fault_at code s ≡ None) × IsFirstOnCycle code slot
Refuses code (Unreachable slot) =
    ((s : ℕ) → fault_at code s ≡ None) × ((s : ℕ) → IsOnCycle code s → ⊥)
    × IsFirstUnreached code slot
Refuses code NoMemory = Unit {0}

pub record IsBuilt (code : Code) (graph : Flow) : Type 0 where
  pub same : graph.code ≡ code
  pub faultless : (s : ℕ) → fault_at code s ≡ None
  pub order : IsOrder code graph.order
  pub reached : (s : ℕ) → Begins code s → IsReached code s
