-- What a step has changed.
use Rattle.std.specs.Prelude.{◌≡◌, ◌≢◌, ℕ, ◌+◌, ◌-◌, ◌≤◌, ◌<◌, List, length, slice_get, slice_index_or, Option, Some, None}
use Rattle.insn_codec.specs.declared.insn.Placed.{Placed}
use Rattle.machine_model.specs.Machine.{State}
use Rattle.machine_model.specs.Memory.{bytes_at}
use Rattle.machine_model.specs.Value.{Registers}
use Rattle.reference.specs.Records.{value_of}
use Rattle.explain.specs.Lines.{IsPlacedAs}
use Rattle.run_trace.specs.declared.step.RegisterChange.{RegisterChange}
use Rattle.run_trace.specs.declared.step.Step.{Step}
use Rattle.run_trace.specs.declared.step.ChangedBytes.{ChangedBytes}

-- Each register that is told holds this, and held something else. The others hold what they did.
-- Each is told once, in the order of their numbers.
pub record AreChanges (old new : Registers) (changes : List RegisterChange) : Type 0 where
  pub told : (k : ℕ) (c : RegisterChange) → slice_get changes k ≡ Some c
      → (new c.register ≡ value_of c.content) × (old c.register ≢ new c.register)
  pub others : (r : ℕ)
      → ((k : ℕ) (c : RegisterChange) → slice_get changes k ≡ Some c → c.register ≢ r)
      → new r ≡ old r
  pub rising : (j k : ℕ) (c d : RegisterChange) → j < k → slice_get changes j ≡ Some c
      → slice_get changes k ≡ Some d → c.register < d.register

-- a byte that is another than before
abbrev pub IsOther : List ℕ → List ℕ → ℕ → Type 0
IsOther old new k = slice_index_or new k 0 ≢ slice_index_or old k 0

abbrev pub IsSame : List ℕ → List ℕ → ℕ → Type 0
IsSame old new k = slice_index_or new k 0 ≡ slice_index_or old k 0

-- The region has these bytes, of which the first and the last are others than before. Around them
-- it has the bytes that it had.
pub record IsRewritten (old new : List ℕ) (w : ChangedBytes) : Type 0 where
  pub some : 0 < length w.bytes.items
  pub bytes : w.bytes.items ≡ bytes_at new w.at (length w.bytes.items)
  pub first : IsOther old new w.at
  pub last : IsOther old new (w.at + length w.bytes.items - 1)
  pub front : (k : ℕ) → k < w.at → IsSame old new k
  pub back : (k : ℕ) → w.at + length w.bytes.items ≤ k → IsSame old new k

-- the same, or no byte is another than before
abbrev pub IsRegionAfter : List ℕ → List ℕ → Option ChangedBytes → Type 0
IsRegionAfter old new None = (k : ℕ) → IsSame old new k
IsRegionAfter old new (Some w) = IsRewritten old new w

-- The step of an instruction, which stands on one of these lines, from one state to the next.
pub record IsStep (placed : List Placed) (lines : List (ℕ × List ℕ)) (s : State) (step : Step)
    (next : State) : Type 0 where
  pub place : IsPlacedAs placed lines s.slot step.place
  pub registers : AreChanges s.registers next.registers step.registers.items
  pub stack : IsRegionAfter s.stack next.stack step.stack
  pub part : IsRegionAfter s.part next.part step.part
  pub used : step.used ≡ next.used
