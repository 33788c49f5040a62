-- How instructions go on.
use Rattle.insn_codec.specs.declared.insn.Insn.{Insn}
use Rattle.insn_codec.specs.declared.insn.Insn.TheVariants.{LoadWide, Jump, Jump32, JumpIf, Exit}
use Rattle.flow_graph.specs.declared.onward.Onward.{Onward}
use Rattle.flow_graph.specs.declared.onward.Onward.TheVariants.{Steps, StepsWide, Jumps, Branches, Ends}

abbrev pub onward_of : Insn → Onward
onward_of (LoadWide dst value) = StepsWide
onward_of (Jump offset) = Jumps offset
onward_of (Jump32 offset) = Jumps offset
onward_of (JumpIf w c dst src offset) = Branches offset
onward_of Exit = Ends
onward_of i = Steps
