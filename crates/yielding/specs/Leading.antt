-- Where a task that runs by itself is led, a piece at a time.
use Rattle.std.specs.Prelude.{◌≡◌, ℕ, zero, suc, ◌<◌, List, Bool, true, false}
use Rattle.machine_model.specs.Machine.{State, Program, Effect, Continues, Ends, Spawns, Calls, Traps, answered, effect}
use Rattle.machine_model.specs.Alone.{no_entries}
use Rattle.yielding.specs.declared.event.PieceEnd.{PieceEnd}
use Rattle.yielding.specs.declared.event.PieceEnd.TheVariants.{AtLimit, Asks, Ended}

-- what follows an instruction that neither ends the task nor asks anybody
abbrev pub StepsOn : (State → Type 0) → Effect → Type 0
StepsOn on (Continues next) = on next
StepsOn on (Ends r0 last) = ⊥
StepsOn on (Spawns birth taken refused) = ⊥
StepsOn on (Calls helper arguments caller) = ⊥
StepsOn on (Traps trap) = ⊥

-- so many such instructions lead from the state to this one
abbrev pub LeadsTo : Program → State → ℕ → State → Type 0
LeadsTo p to zero s = s ≡ to
LeadsTo p to (suc n) s = StepsOn (LeadsTo p to n) (effect p no_entries s)

-- The call at the state has this answer, and leads to the first state of a piece. Where no call
-- waits, the piece begins at the state.
abbrev pub IsAnswered : Program → Bool → ℕ → State → State → Type 0
IsAnswered p false answer s first = first ≡ s
IsAnswered p true answer s first =
    (helper : ℕ) × (arguments : List ℕ) × (caller : State)
    × (effect p no_entries s ≡ Calls helper arguments caller) × (first ≡ answered caller answer)

-- A piece of `limit` instructions at most, from its first state to its last: all of them ran, or
-- the next one asks the host, or it ended the task.
abbrev pub IsPieceRun : Program → ℕ → State → PieceEnd → State → Type 0
IsPieceRun p limit first AtLimit last = LeadsTo p last limit first
IsPieceRun p limit first (Asks question) last =
    (n : ℕ) × (n < limit) × LeadsTo p last n first × (caller : State)
    × (effect p no_entries last ≡ Calls question.helper question.arguments caller)
IsPieceRun p limit first (Ended r0) last =
    (n : ℕ) × (n < limit) × (at : State) × LeadsTo p at n first
    × (effect p no_entries at ≡ Ends r0 last)
