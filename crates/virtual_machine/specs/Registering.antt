-- When a caller's helper is registered, and why it isn't.
use Rattle.std.specs.Prelude.{◌≡◌, ◌≢◌, ℕ, ◌<◌, ◌≤◌, Option, None}
use Rattle.verifier.specs.Checked.{Checked}
use Rattle.virtual_machine.specs.declared.register_fault.RegisterFault.{RegisterFault}
use Rattle.virtual_machine.specs.declared.register_fault.RegisterFault.TheVariants.{BadId, TooManyArguments, ProgramSet, NoMemory}

-- the id is a caller's
pub record IsCallersId (id : ℕ) : Type 0 where
  pub least : 64 ≤ id
  pub most : id < 128

-- the id is a caller's, there are at most 5 arguments, and no program is set
pub record IsRegistrable (id arity : ℕ) (program : Option Checked) : Type 0 where
  pub callers : IsCallersId id
  pub few : arity ≤ 5
  pub unset : program ≡ None

-- the first that applies
abbrev pub IsUnregistrable : ℕ → ℕ → Option Checked → RegisterFault → Type 0
IsUnregistrable id arity program BadId = IsCallersId id → ⊥
IsUnregistrable id arity program TooManyArguments = IsCallersId id × (5 < arity)
IsUnregistrable id arity program ProgramSet = IsCallersId id × (arity ≤ 5) × (program ≢ None)
IsUnregistrable id arity program NoMemory = IsRegistrable id arity program

-- the numbers of the refusals
abbrev pub code_of_register_fault : RegisterFault → ℕ
code_of_register_fault BadId = 44
code_of_register_fault TooManyArguments = 45
code_of_register_fault ProgramSet = 46
code_of_register_fault NoMemory = 99
