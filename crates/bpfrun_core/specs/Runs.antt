-- What a program comes to on a memory: its run by itself, or why it doesn't run.
use Rattle.std.specs.Prelude.{◌≡◌, ◌≢◌, ℕ, ◌<◌, ◌≤◌, List, length, Some}
use Rattle.machine_model.specs.Limits.{max_part}
use Rattle.helpers.specs.Table.{job_table}
use Rattle.verifier.specs.declared.refusals.Refusal.TheVariants as refusal
use Rattle.verifier.specs.Checked.{Checked, cost_at}
use Rattle.verifier.specs.Refusals.{IsAccepted, RefusesProgram}
use Rattle.virtual_machine.specs.Executes.{ExecutesOn}
use Rattle.run_trace.specs.Traces.{unanswered}
use Rattle.bpfrun_core.specs.declared.fault.RunFault.{RunFault}
use Rattle.bpfrun_core.specs.declared.fault.RunFault.TheVariants as fault

-- the program is accepted, and runs with R0 and what it used of the credit, and leaves these bytes
pub record IsProgramRun (need : ℕ) (code : List ℕ) (arg credit : ℕ) (old : List ℕ) (r0 used : ℕ)
    (left : List ℕ) : Type 0 where
  pub small : length old ≤ max_part
  pub program : Checked
  pub accepted : IsAccepted need code job_table program
  pub runs : ExecutesOn (Some program) unanswered arg credit old r0 used left

-- the program is accepted, and lacks something else
pub record IsShort (need : ℕ) (code : List ℕ) (lacks : Checked → Type 0) : Type 0 where
  pub program : Checked
  pub accepted : IsAccepted need code job_table program
  pub lacking : lacks program

-- why it doesn't run
abbrev pub IsStopped : ℕ → List ℕ → ℕ → List ℕ → RunFault → Type 0
IsStopped need code credit memory fault.NotText = ⊥
IsStopped need code credit memory fault.NotHexadecimal = ⊥
IsStopped need code credit memory (fault.Text why) = ⊥
IsStopped need code credit memory fault.MemoryTooLarge = max_part < length memory
IsStopped need code credit memory (fault.Program why) =
    (length memory ≤ max_part) × RefusesProgram need code job_table why × (why ≢ refusal.NoMemory)
IsStopped need code credit memory (fault.CreditLow wanted given) =
    (length memory ≤ max_part) × IsShort need code (λ p. (credit < cost_at p 0)
    × (wanted ≡ cost_at p 0) × (given ≡ credit))
IsStopped need code credit memory (fault.MemoryShort wanted given) =
    (length memory ≤ max_part) × IsShort need code (λ p. (cost_at p 0 ≤ credit)
    × (length memory < p.need) × (wanted ≡ p.need) × (given ≡ length memory))
IsStopped need code credit memory fault.NoMemory = Unit {0}
