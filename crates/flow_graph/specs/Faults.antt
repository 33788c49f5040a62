-- What is wrong with a program's edges.
use Rattle.std.specs.Prelude.{◌≡◌, ℕ, ◌+◌, ◌<◌, length, slice_get, Option, Some, None, nat_lt, if◌then◌else◌}
use Rattle.insn_codec.specs.declared.insn.Insn.{Insn}
use Rattle.machine_model.specs.Edges.{Code, insn_at, target}
use Rattle.flow_graph.specs.declared.fault.FlowFault.{FlowFault}
use Rattle.flow_graph.specs.declared.fault.FlowFault.TheVariants.{JumpOut, IntoWide, FallsOff}
use Rattle.flow_graph.specs.declared.onward.Onward.{Onward}
use Rattle.flow_graph.specs.declared.onward.Onward.TheVariants.{Steps, StepsWide, Jumps, Branches, Ends}
use Rattle.flow_graph.specs.Onward.{onward_of}

-- what is wrong with a jump to this slot, by what is there: nothing, a second slot, or an
-- instruction
abbrev pub landing_fault : ℕ → ℕ → Option (Option Insn) → Option FlowFault
landing_fault slot to None = Some (JumpOut slot)
landing_fault slot to (Some None) = Some (IntoWide slot)
landing_fault slot to (Some (Some i)) = None

-- what is wrong with a jump to this target, which may lie below 0
abbrev pub jump_fault : Code → ℕ → Option ℕ → Option FlowFault
jump_fault code slot None = Some (JumpOut slot)
jump_fault code slot (Some to) = landing_fault slot to (slice_get code to)

-- what is wrong with going on to this slot
abbrev pub fall_fault : Code → ℕ → ℕ → Option FlowFault
fall_fault code slot to = if nat_lt to (length code) then None else Some (FallsOff slot)

abbrev pub first_of_faults : Option FlowFault → Option FlowFault → Option FlowFault
first_of_faults (Some fault) other = Some fault
first_of_faults None other = other

-- the fault of lowest number that applies to an instruction which goes on in this way
abbrev pub onward_fault : Code → ℕ → Onward → Option FlowFault
onward_fault code slot Steps = fall_fault code slot (slot + 1)
onward_fault code slot StepsWide = fall_fault code slot (slot + 2)
onward_fault code slot (Jumps offset) = jump_fault code slot (target slot offset)
onward_fault code slot (Branches offset) =
    first_of_faults (jump_fault code slot (target slot offset)) (fall_fault code slot (slot + 1))
onward_fault code slot Ends = None

abbrev pub fault_of : Code → ℕ → Option Insn → Option FlowFault
fault_of code slot None = None
fault_of code slot (Some i) = onward_fault code slot (onward_of i)

-- the fault of lowest number at the slot
abbrev pub fault_at : Code → ℕ → Option FlowFault
fault_at code slot = fault_of code slot (insn_at code slot)

-- the program's first fault: at the lowest slot, of the lowest number
pub record IsFirstFault (code : Code) (slot : ℕ) (fault : FlowFault) : Type 0 where
  pub applies : fault_at code slot ≡ Some fault
  pub least : (s : ℕ) → s < slot → fault_at code s ≡ None
