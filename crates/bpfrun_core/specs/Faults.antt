-- The numbers of the refusals.
use Rattle.std.specs.Prelude.{ℕ}
use Rattle.assembler.specs.Fault.{code_of_text_fault}
use Rattle.verifier.specs.RefusalCodes.{code_of_refusal as number_of_refusal}
use Rattle.bpfrun_core.specs.declared.fault.RunFault.{RunFault}
use Rattle.bpfrun_core.specs.declared.fault.RunFault.TheVariants as fault

abbrev pub number_of_run_fault : RunFault → ℕ
number_of_run_fault fault.NotText = 73
number_of_run_fault fault.NotHexadecimal = 73
number_of_run_fault (fault.Text why) = code_of_text_fault why
number_of_run_fault fault.MemoryTooLarge = 65
number_of_run_fault (fault.Program why) = number_of_refusal why
number_of_run_fault (fault.CreditLow wanted given) = 42
number_of_run_fault (fault.MemoryShort wanted given) = 43
number_of_run_fault fault.NoMemory = 99
