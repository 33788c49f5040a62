-- The numbers of the refusals, and what else they tell.
use Rattle.std.specs.Prelude.{ℕ, Option, None}
use Rattle.job_core.specs.Admission.{code_of_admit_fault, program_of_admit_fault, slot_of_admit_fault}
use Rattle.accounts.specs.declared.fault.DeskFault.{DeskFault}
use Rattle.accounts.specs.declared.fault.DeskFault.TheVariants as desk
use Rattle.accounts.specs.declared.fault.SubmitFault.{SubmitFault}
use Rattle.accounts.specs.declared.fault.SubmitFault.TheVariants as submit

abbrev pub desk_code : DeskFault → ℕ
desk_code desk.NoTenant = 74
desk_code desk.NoJob = 76
desk_code desk.NotComplete = 77
desk_code desk.TooLarge = 65
desk_code (desk.Failed code) = code
desk_code desk.NoMemory = 99

abbrev pub submit_code : SubmitFault → ℕ
submit_code submit.NoTenant = 74
submit_code submit.BalanceLow = 75
submit_code (submit.Admit fault) = code_of_admit_fault fault

-- the place of the program that it tells, if it tells one
abbrev pub submit_program : SubmitFault → Option ℕ
submit_program submit.NoTenant = None
submit_program submit.BalanceLow = None
submit_program (submit.Admit fault) = program_of_admit_fault fault

-- the slot that it tells, if it tells one
abbrev pub submit_slot : SubmitFault → Option ℕ
submit_slot submit.NoTenant = None
submit_slot submit.BalanceLow = None
submit_slot (submit.Admit fault) = slot_of_admit_fault fault
