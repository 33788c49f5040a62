-- What one task comes to by itself, whose spawns are answered from a list.
use Rattle.std.specs.Prelude.{◌≡◌, ℕ, zero, suc, ◌≤◌, ◌⊎◌, List, [], ◌∷◌, length, replicate, slice_get, Bool, true, false, Some}
use Rattle.machine_model.specs.Limits.{max_credit, max_part}
use Rattle.machine_model.specs.Bytes.{AllBytes}
use Rattle.machine_model.specs.Machine.{State, Program, Entries, Birth, Effect, Continues, Ends, Spawns, Calls, Traps, cost_at, effect}
use Rattle.machine_model.specs.JobState.{Ending, entries_of, entry_registers}

-- A spawn that passed its tests: what it asked for, where in the task's part its bytes begin, and
-- whether it was refused. Its answer is 6 where it was, and else 0.
pub record SpawnRequest : Type 0 where
  pub birth : Birth
  pub at : ℕ
  pub refused : Bool

-- What follows an effect on a task that runs by itself. The list has each spawn that passes its
-- tests, in order, and no more. Nothing follows a trap, and nobody answers a helper of a caller's.
abbrev pub Proceeds : (List SpawnRequest → State → Type 0) → List SpawnRequest → ℕ → State → Effect
    → Type 0
Proceeds on asked r0 last (Continues next) = on asked next
Proceeds on asked r0 last (Ends word state) = (asked ≡ []) × (word ≡ r0) × (state ≡ last)
Proceeds on asked r0 last (Spawns birth taken refused) = (later : List SpawnRequest) × (
    ((asked ≡ record { birth = birth; at = length taken.part; refused = false } ∷ later)
    × on later taken)
    ⊎ ((asked ≡ record { birth = birth; at = length taken.part; refused = true } ∷ later)
    × on later refused))
Proceeds on asked r0 last (Calls helper arguments caller) = ⊥
Proceeds on asked r0 last (Traps trap) = ⊥

-- within so many steps the task ends with R0, in a last state, having asked for these spawns
abbrev pub SoloWithin : Program → Entries → ℕ → State → ℕ → List SpawnRequest → State → Type 0
SoloWithin p entries r0 last zero asked s = ⊥
SoloWithin p entries r0 last (suc n) asked s =
    Proceeds (SoloWithin p entries r0 last n) asked r0 last (effect p entries s)

-- The task by itself, from this state on: it asks for these spawns, and ends with R0 in a last
-- state, which has what it used and what is left of its part.
abbrev pub Solo : Program → Entries → State → List SpawnRequest → ℕ → State → Type 0
Solo p entries s asked r0 last = (n : ℕ) × SoloWithin p entries r0 last n asked s

-- a task at its start
abbrev pub entering : ℕ → ℕ → List ℕ → State
entering arg held bytes = record {
  slot = 0;
  registers = entry_registers (length bytes) arg;
  stack = replicate 512 0;
  part = bytes;
  held = held;
  used = 0;
}

-- What a task is given suffices for its program: credit from its cost to 2,147,483,647, and from
-- its need to 65,536 bytes.
pub record IsGiven (p : Program) (given : ℕ) (bytes : List ℕ) : Type 0 where
  pub affords : cost_at p 0 ≤ given
  pub limit : given ≤ max_credit
  pub fits : p.need ≤ length bytes
  pub short : length bytes ≤ max_part
  pub are_bytes : AllBytes bytes

-- The ended task has the use and the R0 that it comes to by itself on its program, its argument and
-- the credit that it was given, on some part that suffices for the program and under some answers,
-- and left the bytes that it comes to.
pub record RanAlone (programs : List Program) (e : Ending) (left : List ℕ) : Type 0 where
  pub program : Program
  pub there : slice_get programs e.program ≡ Some program
  pub bytes : List ℕ
  pub suffices : IsGiven program e.given bytes
  pub asked : List SpawnRequest
  pub last : State
  pub alone : Solo program (entries_of programs) (entering e.arg e.given bytes) asked e.r0 last
  pub spent : last.used ≡ e.spent
  pub part : last.part ≡ left
