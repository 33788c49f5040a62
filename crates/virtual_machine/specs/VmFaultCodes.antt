-- The numbers of the refusals.
use Rattle.std.specs.Prelude.{ℕ}
use Rattle.virtual_machine.specs.declared.vm_fault.VmFault.{VmFault}
use Rattle.virtual_machine.specs.declared.vm_fault.VmFault.TheVariants.{NoProgram, CreditLow, MemoryShort, NoMemory}

abbrev pub code_of_vm_fault : VmFault → ℕ
code_of_vm_fault NoProgram = 41
code_of_vm_fault (CreditLow wanted given) = 42
code_of_vm_fault (MemoryShort wanted given) = 43
code_of_vm_fault NoMemory = 99
