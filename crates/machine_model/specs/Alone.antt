-- A program that runs alone: one task, from which nothing can be spawned.
use Rattle.std.specs.Prelude.{◌≡◌, ℕ, zero, suc, List, length, replicate, None}
use Rattle.machine_model.specs.Machine.{State, Program, Entries, Effect, Continues, Ends, Spawns, Calls, Traps, answered, effect}
use Rattle.machine_model.specs.JobState.{entry_registers}

-- there is no program that could be spawned
abbrev pub no_entries : Entries
no_entries number = None

-- the task at its start, with all the credit, these bytes as its part, and argument 0
abbrev pub alone : ℕ → List ℕ → State
alone credit bytes = record {
  slot = 0;
  registers = entry_registers (length bytes) 0;
  stack = replicate 512 0;
  part = bytes;
  held = credit;
  used = 0;
}

-- what a helper of the caller's own may answer to five arguments
abbrev pub MayAnswer : Type 1
MayAnswer = ℕ → List ℕ → ℕ → Type 0

-- what follows an effect: nothing follows a trap, and nothing is spawned
abbrev pub Follows : MayAnswer → (State → Type 0) → ℕ → State → Effect → Type 0
Follows may on r0 last (Continues next) = on next
Follows may on r0 last (Ends word state) = (r0 ≡ word) × (last ≡ state)
Follows may on r0 last (Spawns birth taken refused) = ⊥
Follows may on r0 last (Calls helper arguments caller) =
    (answer : ℕ) × may helper arguments answer × on (answered caller answer)
Follows may on r0 last (Traps trap) = ⊥

-- within so many steps the task ends with R0, in a last state
abbrev pub EndsWithin : Program → MayAnswer → ℕ → State → ℕ → State → Type 0
EndsWithin p may r0 last zero s = ⊥
EndsWithin p may r0 last (suc n) s =
    Follows may (EndsWithin p may r0 last n) r0 last (effect p no_entries s)

-- the task ends with R0, in a last state
abbrev pub EndsAlone : Program → MayAnswer → State → ℕ → State → Type 0
EndsAlone p may s r0 last = (n : ℕ) × EndsWithin p may r0 last n s
