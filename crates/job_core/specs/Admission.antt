-- When a job is admitted, and when each refusal comes.
use Rattle.std.specs.Prelude.{◌≡◌, ◌⊎◌, ℕ, ◌≤◌, ◌<◌, List, length, slice_get, Option, Some, None}
use Rattle.machine_model.specs.Limits.{max_credit, max_part}
use Rattle.helpers.specs.Table.{job_table}
use Rattle.verifier.specs.declared.refusals.Refusal.{Refusal}
use Rattle.verifier.specs.declared.refusals.Refusal.TheVariants as program
use Rattle.verifier.specs.Checked.{Checked, cost_at}
use Rattle.verifier.specs.Refusals.{IsAccepted, RefusesProgram}
use Rattle.verifier.specs.RefusalCodes.{code_of_refusal as number_of_program, slot_of_refusal as slot_of_program}
use Rattle.job_core.specs.declared.admission.ProgramBytes.{ProgramBytes}
use Rattle.job_core.specs.declared.admission.AdmitFault.{AdmitFault}
use Rattle.job_core.specs.declared.admission.AdmitFault.TheVariants.{NoPrograms, TooManyPrograms, TooLarge, Program, CreditLow, BufferShort, NoMemory}
use Rattle.job_core.specs.Admitted.{AdmittedJob}

-- the verifier accepts the program with this, for the helpers of a job
abbrev pub Accepts : ProgramBytes → Checked → Type 0
Accepts p v = IsAccepted p.need p.code.items job_table v

-- the verifier has this refusal of the program
abbrev pub IsRefusedProgram : ProgramBytes → Refusal → Type 0
IsRefusedProgram p program.NoMemory = ⊥
IsRefusedProgram p refusal = RefusesProgram p.need p.code.items job_table refusal

-- the refusal of the program of this number that the verifier refuses
abbrev pub fault_of_program : ℕ → Refusal → AdmitFault
fault_of_program index program.NoMemory = NoMemory
fault_of_program index refusal = Program index refusal

-- the verifier accepts each program with the one at its place
pub record AreAccepted (programs : List ProgramBytes) (accepted : List Checked) : Type 0 where
  pub count : length accepted ≡ length programs
  pub each : (n : ℕ) (p : ProgramBytes) (v : Checked) → slice_get programs n ≡ Some p
      → slice_get accepted n ≡ Some v → Accepts p v

-- the numbers of programs and bytes and the credit are within their limits
pub record IsWithinLimits (programs : List ProgramBytes) (credit : ℕ) (buffer : List ℕ) :
    Type 0 where
  pub some : 1 ≤ length programs
  pub few : length programs ≤ 16
  pub limit : credit ≤ max_credit
  pub small : length buffer ≤ max_part

-- the job that is admitted: its programs are accepted, and its credit and buffer cover the root
pub record IsAdmittedFrom (programs : List ProgramBytes) (credit : ℕ) (buffer : List ℕ)
    (order : AdmittedJob) : Type 0 where
  pub limits : IsWithinLimits programs credit buffer
  pub accepted : AreAccepted programs order.programs
  pub same_credit : order.credit ≡ credit
  pub same_buffer : order.buffer ≡ buffer
  pub root : Checked
  pub is_root : slice_get order.programs 0 ≡ Some root
  pub cost : cost_at root 0 ≤ credit
  pub need : root.need ≤ length buffer

-- the first program that the verifier refuses, with its refusal
pub record IsFirstRefused (programs : List ProgramBytes) (index : ℕ) (refusal : Refusal) :
    Type 0 where
  pub refused : (p : ProgramBytes) × (slice_get programs index ≡ Some p)
      × IsRefusedProgram p refusal
  pub earlier : (n : ℕ) (p : ProgramBytes) → n < index → slice_get programs n ≡ Some p
      → (v : Checked) × Accepts p v

-- what there is to tell of programs of which one isn't accepted
abbrev pub IsProgramFault : List ProgramBytes → AdmitFault → Type 0
IsProgramFault programs (Program index refusal) = IsFirstRefused programs index refusal
IsProgramFault programs NoMemory = Unit {0}
IsProgramFault programs fault = ⊥

-- each program is accepted, and the root is this one
pub record IsRoot (programs : List ProgramBytes) (root : Checked) : Type 0 where
  pub accepted : List Checked
  pub all : AreAccepted programs accepted
  pub first : slice_get accepted 0 ≡ Some root

-- the one refusal of a job, but for want of memory, which comes where the numbers are within their
-- limits alone
abbrev pub RefusesJob : List ProgramBytes → ℕ → List ℕ → AdmitFault → Type 0
RefusesJob programs credit buffer NoPrograms = length programs ≡ 0
RefusesJob programs credit buffer TooManyPrograms = 16 < length programs
RefusesJob programs credit buffer TooLarge =
    (1 ≤ length programs) × (length programs ≤ 16)
    × ((max_credit < credit) ⊎ (max_part < length buffer))
RefusesJob programs credit buffer (Program index refusal) =
    IsWithinLimits programs credit buffer × IsFirstRefused programs index refusal
RefusesJob programs credit buffer CreditLow =
    IsWithinLimits programs credit buffer × (root : Checked) × IsRoot programs root
    × (credit < cost_at root 0)
RefusesJob programs credit buffer BufferShort =
    IsWithinLimits programs credit buffer × (root : Checked) × IsRoot programs root
    × (cost_at root 0 ≤ credit) × (length buffer < root.need)
RefusesJob programs credit buffer NoMemory = IsWithinLimits programs credit buffer

-- the numbers of the refusals, and the slot that one tells
abbrev pub code_of_admit_fault : AdmitFault → ℕ
code_of_admit_fault NoPrograms = 61
code_of_admit_fault TooManyPrograms = 62
code_of_admit_fault TooLarge = 65
code_of_admit_fault (Program index refusal) = number_of_program refusal
code_of_admit_fault CreditLow = 63
code_of_admit_fault BufferShort = 64
code_of_admit_fault NoMemory = 99

abbrev pub slot_of_admit_fault : AdmitFault → Option ℕ
slot_of_admit_fault NoPrograms = None
slot_of_admit_fault TooManyPrograms = None
slot_of_admit_fault TooLarge = None
slot_of_admit_fault (Program index refusal) = slot_of_program refusal
slot_of_admit_fault CreditLow = None
slot_of_admit_fault BufferShort = None
slot_of_admit_fault NoMemory = None

-- the place of the program that it tells, if it tells one
abbrev pub program_of_admit_fault : AdmitFault → Option ℕ
program_of_admit_fault NoPrograms = None
program_of_admit_fault TooManyPrograms = None
program_of_admit_fault TooLarge = None
program_of_admit_fault (Program index refusal) = Some index
program_of_admit_fault CreditLow = None
program_of_admit_fault BufferShort = None
program_of_admit_fault NoMemory = None
