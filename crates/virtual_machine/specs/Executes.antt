-- What a program that runs alone comes to, and why one isn't run.
use Rattle.std.specs.Prelude.{◌≡◌, ℕ, ◌<◌, ◌≤◌, List, length, Option, Some, None}
use Rattle.machine_model.specs.Machine.{State}
use Rattle.machine_model.specs.Alone.{MayAnswer, EndsAlone, alone}
use Rattle.task_trees.specs.Solo.{entering}
use Rattle.helpers.specs.Table.{Table}
use Rattle.verifier.specs.Checked.{Checked, program_of, cost_at}
use Rattle.verifier.specs.Refusals.{IsAccepted}
use Rattle.virtual_machine.specs.declared.vm_fault.VmFault.{VmFault}
use Rattle.virtual_machine.specs.declared.vm_fault.VmFault.TheVariants.{NoProgram, CreditLow, MemoryShort, NoMemory}

-- the program runs alone from its entry to its end with R0, and leaves these bytes
pub record ExecutesTo (p : Checked) (may : MayAnswer) (credit : ℕ) (bytes : List ℕ) (r0 : ℕ)
    (left : List ℕ) : Type 0 where
  pub last : State
  pub ends : EndsAlone (program_of p) may (alone credit bytes) r0 last
  pub leaves : left ≡ last.part

-- the program runs alone with this argument from its entry to its end with R0, used so much of the
-- credit, and leaves these bytes
pub record RunsOn (p : Checked) (may : MayAnswer) (arg credit : ℕ) (bytes : List ℕ) (r0 used : ℕ)
    (left : List ℕ) : Type 0 where
  pub last : State
  pub ends : EndsAlone (program_of p) may (entering arg credit bytes) r0 last
  pub uses : used ≡ last.used
  pub leaves : left ≡ last.part

-- a program is set, which so much credit and so many bytes suffice for
pub record IsRunnable (program : Option Checked) (credit len : ℕ) (p : Checked) : Type 0 where
  pub set : program ≡ Some p
  pub affords : cost_at p 0 ≤ credit
  pub fits : p.need ≤ len

-- the program that is set runs
pub record Executes (program : Option Checked) (may : MayAnswer) (credit : ℕ) (bytes : List ℕ)
    (r0 : ℕ) (left : List ℕ) : Type 0 where
  pub p : Checked
  pub runnable : IsRunnable program credit (length bytes) p
  pub runs : ExecutesTo p may credit bytes r0 left

-- the program that is set runs with this argument, and used so much of the credit
pub record ExecutesOn (program : Option Checked) (may : MayAnswer) (arg credit : ℕ) (bytes : List ℕ)
    (r0 used : ℕ) (left : List ℕ) : Type 0 where
  pub p : Checked
  pub runnable : IsRunnable program credit (length bytes) p
  pub runs : RunsOn p may arg credit bytes r0 used left

-- why the program doesn't run; a run takes no memory
abbrev pub IsUnrunnable : Option Checked → ℕ → ℕ → VmFault → Type 0
IsUnrunnable program credit len NoProgram = program ≡ None
IsUnrunnable program credit len (CreditLow wanted given) =
    (p : Checked) × (program ≡ Some p) × (credit < cost_at p 0) × (wanted ≡ cost_at p 0)
    × (given ≡ credit)
IsUnrunnable program credit len (MemoryShort wanted given) =
    (p : Checked) × (program ≡ Some p) × (cost_at p 0 ≤ credit) × (len < p.need) × (wanted ≡ p.need)
    × (given ≡ len)
IsUnrunnable program credit len NoMemory = ⊥

-- the program is that of the bytes, verified with these helpers
abbrev pub IsProgramOf : ℕ → List ℕ → Table → Option Checked → Type 0
IsProgramOf need bytes helpers program =
    (p : Checked) × (program ≡ Some p) × IsAccepted need bytes helpers p
