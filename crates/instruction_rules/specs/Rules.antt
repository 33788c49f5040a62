-- The rules that an instruction keeps, and their numbers.
use Rattle.std.specs.Prelude.{ℕ}
use Rattle.value_ranges.specs.declared.fault.PointerFault.{PointerFault}
use Rattle.value_ranges.specs.declared.fault.PointerFault.TheVariants.{NoResult, TooFar}
use Rattle.instruction_rules.specs.declared.rule.Rule.{Rule}
use Rattle.instruction_rules.specs.declared.rule.Rule.TheVariants.{UnsetRead, OutOfStack, OutOfPart, BadKind, PointerRange, FramePointer, NoHelper}

abbrev pub number_of_rule : Rule → ℕ
number_of_rule UnsetRead = 31
number_of_rule OutOfStack = 32
number_of_rule OutOfPart = 33
number_of_rule BadKind = 34
number_of_rule PointerRange = 35
number_of_rule FramePointer = 36
number_of_rule NoHelper = 37

-- the rule that arithmetic without a result breaks
abbrev pub pointer_rule : PointerFault → Rule
pointer_rule NoResult = BadKind
pointer_rule TooFar = PointerRange
