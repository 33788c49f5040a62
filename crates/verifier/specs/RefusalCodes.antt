-- The numbers of the refusals, their slots, and the rules that they tell of.
use Rattle.std.specs.Prelude.{ℕ, Option, Some, None}
use Rattle.insn_codec.specs.declared.fault.CodecFault.{CodecFault}
use Rattle.insn_codec.specs.declared.fault.CodecFault.TheVariants as codec
use Rattle.insn_codec.specs.Fault.{code_of_fault as number_of_codec, slot_of_fault as codec_slot}
use Rattle.flow_graph.specs.declared.fault.FlowFault.{FlowFault}
use Rattle.flow_graph.specs.declared.fault.FlowFault.TheVariants as flow
use Rattle.flow_graph.specs.FaultCodes.{code_of_fault as number_of_flow, slot_of_fault as flow_slot}
use Rattle.instruction_rules.specs.declared.rule.Rule.{Rule}
use Rattle.instruction_rules.specs.declared.rule.Rule.TheVariants as rule
use Rattle.instruction_rules.specs.Rules.{number_of_rule}
use Rattle.verifier.specs.declared.refusals.Refusal.{Refusal}
use Rattle.verifier.specs.declared.refusals.Refusal.TheVariants.{NeedTooLarge, Codec, Flow, UnsetRead, OutOfStack, OutOfPart, BadKind, PointerRange, FramePointer, NoHelper, NoMemory}

abbrev pub code_of_refusal : Refusal → ℕ
code_of_refusal NeedTooLarge = 38
code_of_refusal (Codec fault) = number_of_codec fault
code_of_refusal (Flow fault) = number_of_flow fault
code_of_refusal (UnsetRead slot) = number_of_rule rule.UnsetRead
code_of_refusal (OutOfStack slot) = number_of_rule rule.OutOfStack
code_of_refusal (OutOfPart slot) = number_of_rule rule.OutOfPart
code_of_refusal (BadKind slot) = number_of_rule rule.BadKind
code_of_refusal (PointerRange slot) = number_of_rule rule.PointerRange
code_of_refusal (FramePointer slot) = number_of_rule rule.FramePointer
code_of_refusal (NoHelper slot) = number_of_rule rule.NoHelper
code_of_refusal NoMemory = 99

-- the slot that a refusal tells
abbrev pub slot_of_refusal : Refusal → Option ℕ
slot_of_refusal NeedTooLarge = None
slot_of_refusal (Codec fault) = codec_slot fault
slot_of_refusal (Flow fault) = flow_slot fault
slot_of_refusal (UnsetRead slot) = Some slot
slot_of_refusal (OutOfStack slot) = Some slot
slot_of_refusal (OutOfPart slot) = Some slot
slot_of_refusal (BadKind slot) = Some slot
slot_of_refusal (PointerRange slot) = Some slot
slot_of_refusal (FramePointer slot) = Some slot
slot_of_refusal (NoHelper slot) = Some slot
slot_of_refusal NoMemory = None

-- the refusal of a program whose bytes the decoder refuses
abbrev pub from_codec : CodecFault → Refusal
from_codec codec.NoMemory = NoMemory
from_codec fault = Codec fault

-- the refusal of a program that has no graph
abbrev pub from_flow : FlowFault → Refusal
from_flow flow.NoMemory = NoMemory
from_flow fault = Flow fault

-- the refusal of an instruction that breaks the rule
abbrev pub refusal_at : ℕ → Rule → Refusal
refusal_at slot rule.UnsetRead = UnsetRead slot
refusal_at slot rule.OutOfStack = OutOfStack slot
refusal_at slot rule.OutOfPart = OutOfPart slot
refusal_at slot rule.BadKind = BadKind slot
refusal_at slot rule.PointerRange = PointerRange slot
refusal_at slot rule.FramePointer = FramePointer slot
refusal_at slot rule.NoHelper = NoHelper slot
