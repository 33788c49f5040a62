-- A run whose calls a function of the host's answers, which goes from state to state.
use Rattle.std.specs.Prelude.{◌≡◌, ℕ, zero, suc, List, [], ◌∷◌}
use Rattle.machine_model.specs.Machine.{State, Program, Effect, Continues, Ends, Spawns, Calls, Traps, answered, effect}
use Rattle.machine_model.specs.Alone.{no_entries}
use Rattle.task_trees.specs.Solo.{entering}
use Rattle.verifier.specs.Checked.{Checked, program_of}
use Rattle.yielding.specs.declared.event.Question.{Question}

-- a call of a helper of the host's, and the answer to it
pub record Exchange : Type 0 where
  pub question : Question
  pub answer : ℕ

-- What follows an effect on a task that runs alone. The list has each call of a helper of the
-- host's with its answer, in order, and no more. Nothing follows a trap, and nothing is spawned.
abbrev pub FollowsEffect : (List Exchange → State → Type 0) → List Exchange → ℕ → State → Effect
    → Type 0
FollowsEffect on asked r0 last (Continues next) = on asked next
FollowsEffect on asked r0 last (Ends word state) = (asked ≡ []) × (r0 ≡ word) × (last ≡ state)
FollowsEffect on asked r0 last (Spawns birth taken refused) = ⊥
FollowsEffect on asked r0 last (Calls helper arguments caller) = (answer : ℕ)
    × (later : List Exchange)
    × (asked ≡ record {
      question = record { helper = helper; arguments = arguments };
      answer = answer;
    } ∷ later) × on later (answered caller answer)
FollowsEffect on asked r0 last (Traps trap) = ⊥

-- within so many steps the task ends with R0, in a last state, with these calls on the way
abbrev pub AsksWithin : Program → ℕ → State → ℕ → List Exchange → State → Type 0
AsksWithin p r0 last zero asked s = ⊥
AsksWithin p r0 last (suc n) asked s =
    FollowsEffect (AsksWithin p r0 last n) asked r0 last (effect p no_entries s)

-- the task ends with R0, in a last state, with these calls on the way
abbrev pub EndsAsking : Program → State → List Exchange → ℕ → State → Type 0
EndsAsking p s asked r0 last = (n : ℕ) × AsksWithin p r0 last n asked s

-- The function was called once for each of these, in order, and went from its first state to its
-- last. `step f question word g` says that in the state `f` it may answer the word to the question,
-- and is left in the state `g`.
abbrev pub AnswersCalls : {F : Type 0} → (F → Question → ℕ → F → Type 0) → F → List Exchange → F
    → Type 0
AnswersCalls step f [] g = g ≡ f
AnswersCalls {F = F} step f (e ∷ later) g =
    (mid : F) × step f e.question e.answer mid × AnswersCalls step mid later g

-- The program runs alone with this argument from its entry to its end with R0, used so much of the
-- credit, and leaves these bytes. The function answered each of its calls, and was called for
-- nothing else.
pub record RunsAsking {F : Type 0} (p : Checked) (step : F → Question → ℕ → F → Type 0) (f : F)
    (arg credit : ℕ) (bytes : List ℕ) (r0 used : ℕ) (left : List ℕ) (g : F) : Type 0 where
  pub asked : List Exchange
  pub last : State
  pub ends : EndsAsking (program_of p) (entering arg credit bytes) asked r0 last
  pub uses : used ≡ last.used
  pub leaves : left ≡ last.part
  pub answers : AnswersCalls step f asked g
