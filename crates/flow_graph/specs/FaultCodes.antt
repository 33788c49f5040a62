-- The numbers of the refusals, and their slots.
use Rattle.std.specs.Prelude.{ℕ, Option, Some, None}
use Rattle.flow_graph.specs.declared.fault.FlowFault.{FlowFault}
use Rattle.flow_graph.specs.declared.fault.FlowFault.TheVariants.{JumpOut, IntoWide, Cycle, FallsOff, Unreachable, NoMemory}

abbrev pub code_of_fault : FlowFault → ℕ
code_of_fault (JumpOut slot) = 21
code_of_fault (IntoWide slot) = 22
code_of_fault (Cycle slot) = 23
code_of_fault (FallsOff slot) = 24
code_of_fault (Unreachable slot) = 25
code_of_fault NoMemory = 99

-- the slot that it tells, if it tells one
abbrev pub slot_of_fault : FlowFault → Option ℕ
slot_of_fault (JumpOut slot) = Some slot
slot_of_fault (IntoWide slot) = Some slot
slot_of_fault (Cycle slot) = Some slot
slot_of_fault (FallsOff slot) = Some slot
slot_of_fault (Unreachable slot) = Some slot
slot_of_fault NoMemory = None
