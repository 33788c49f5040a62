-- The numbers of what is refused of arithmetic.
use Rattle.std.specs.Prelude.{ℕ}
use Rattle.value_ranges.specs.declared.fault.PointerFault.{PointerFault}
use Rattle.value_ranges.specs.declared.fault.PointerFault.TheVariants.{NoResult, TooFar}

abbrev pub code_of_pointer_fault : PointerFault → ℕ
code_of_pointer_fault NoResult = 34
code_of_pointer_fault TooFar = 35
