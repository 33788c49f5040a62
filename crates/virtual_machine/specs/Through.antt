-- What a spawner has gone through while a task ran by itself.
use Rattle.std.specs.Prelude.{◌≡◌, ℕ, ◌+◌, List, [], ◌∷◌, Result, Bool, true, false}
use Rattle.machine_model.specs.Machine.{State, Program, Entries}
use Rattle.helpers.specs.declared.spawner.SpawnRecord.{SpawnRecord}
use Rattle.interpreter.specs.Telling.{Took, NotSpawned}
use Rattle.task_trees.specs.Solo.{SpawnRequest, Solo}

abbrev pub if_refused : Bool → Type 0 → Type 0 → Type 0
if_refused true took refused = refused
if_refused false took refused = took

module _ {S : Type 0} (spawns : S → SpawnRecord → Result (Unit {0}) SpawnRecord → S
    → Type 0) (base : ℕ) where
  -- The spawner took this spawn, or it refused it, or wasn't called since there was no memory for
  -- the child's bytes.
  abbrev pub Replied : S → SpawnRequest → S → Type 0
  Replied old a new =
      if_refused a.refused (Took a.birth (base + a.at) (λ child reply. spawns old child reply new))
      (NotSpawned a.birth (base + a.at) (λ child reply. spawns old child reply new) (new ≡ old))

  -- the spawner replied to each of these spawns, in order, and nothing else was asked of it
  abbrev pub GoesThrough : S → List SpawnRequest → S → Type 0
  GoesThrough old [] new = new ≡ old
  GoesThrough old (a ∷ later) new = (mid : S) × Replied old a mid × GoesThrough mid later new

-- a run that was whole stays so, but for a spawn of it that is refused
abbrev pub whole_after : Bool → Bool → Bool
whole_after true whole = false
whole_after false whole = whole

-- none of these spawns was refused
abbrev pub none_refused : List SpawnRequest → Bool
none_refused [] = true
none_refused (a ∷ later) = whole_after a.refused (none_refused later)

-- A task by itself came to this end: what is left of its part, what it used and R0, while the
-- spawner went `through` what it asked for. It is told as whole exactly where none of its spawns was
-- refused.
pub record RunsAlone (p : Program) (entries : Entries) (s : State) (through : List SpawnRequest
    → Type 0) (r0 used : ℕ) (bytes : List ℕ) (whole : Bool) : Type 0 where
  pub asked : List SpawnRequest
  pub last : State
  pub alone : Solo p entries s asked r0 last
  pub used_is : used ≡ last.used
  pub bytes_are : bytes ≡ last.part
  pub went : through asked
  pub told : whole ≡ none_refused asked
