-- What a task comes to with all that it spawns, each spawn taken.
use Rattle.std.specs.Prelude.{◌≡◌, ℕ, zero, suc, ◌+◌, List, [], ◌∷◌, ◌++◌, length, take, drop, replicate, slice_get, false, Some}
use Rattle.machine_model.specs.Machine.{State, Program, Effect, Continues, Ends, Spawns, Calls, Traps, effect}
use Rattle.machine_model.specs.JobState.{Task, Ending, Member, Live, Ended, JobState, with_state, child_of, ending_of, entries_of, entry_registers}
use Rattle.task_trees.specs.Solo.{SpawnRequest, Solo}

-- a task that ended, with the bytes of the range that it left
pub record Finished : Type 0 where
  pub ending : Ending
  pub bytes : List ℕ

-- the state of a task whose range has these bytes
abbrev pub state_with : Task → List ℕ → State
state_with t bytes = record {
  slot = t.slot;
  registers = t.registers;
  stack = t.stack;
  part = bytes;
  held = t.held;
  used = t.used;
}

-- a task that goes on from this state after a spawn that was taken
abbrev pub parent_of : Task → State → Task
parent_of t s = record (with_state t s) { children = suc t.children }

-- What follows an effect on a task, where each spawn that passes its tests is taken. `on` says what
-- a task whose range has these bytes comes to.
abbrev pub Comes : (Task → List ℕ → List Finished → Type 0) → Task → List Finished → Effect → Type 0
Comes on t result (Continues next) = on (with_state t next) next.part result
Comes on t result (Ends r0 last) =
    result ≡ record { ending = ending_of t last r0; bytes = last.part } ∷ []
Comes on t result (Spawns birth taken refused) =
    (own child : List Finished) × on (parent_of t taken) taken.part own
    × on (child_of t taken birth) birth.bytes child × (result ≡ child ++ own)
Comes on t result (Calls helper arguments caller) = ⊥
Comes on t result (Traps trap) = ⊥

-- what the task comes to with all that it spawns, within so many steps: those of a child count
-- beside those that its parent has left
abbrev pub EvalWithin : List Program → ℕ → Task → List ℕ → List Finished → Type 0
EvalWithin programs zero t bytes result = ⊥
EvalWithin programs (suc n) t bytes result = (p : Program) × (slice_get programs t.program ≡ Some p)
    × Comes (EvalWithin programs n) t result (effect p (entries_of programs) (state_with t bytes))

-- A task whose range has these bytes, from its present state on, with all that it spawns: each
-- spawn that passes its tests is taken, and the child is evaluated by itself. What comes of it is
-- each task at its end: the children in order, each after those that it spawned, and the task
-- itself last.
abbrev pub Eval : List Program → Task → List ℕ → List Finished → Type 0
Eval programs t bytes result = (n : ℕ) × EvalWithin programs n t bytes result

-- the child of a task that asked for this spawn and was given the number k
abbrev pub child_at : Task → ℕ → SpawnRequest → Task
child_at t k a = record {
  program = a.birth.program;
  arg = a.birth.arg;
  given = a.birth.share;
  place = t.place ++ k ∷ [];
  children = 0;
  slot = 0;
  registers = entry_registers (length a.birth.bytes) a.birth.arg;
  stack = replicate 512 0;
  base = t.base + a.at;
  size = length a.birth.bytes;
  held = a.birth.share;
  used = 0;
}

-- what the children of a task come to, one after the other, where each spawn that it asks for is
-- taken, and the first gets the number k
abbrev pub ChildrenCome : List Program → Task → ℕ → List SpawnRequest → List Finished → Type 0
ChildrenCome programs t k [] result = result ≡ []
ChildrenCome programs t k (a ∷ later) result = (child others : List Finished) × (a.refused ≡ false)
    × Eval programs (child_at t k a) a.birth.bytes child
    × ChildrenCome programs t (suc k) later others × (result ≡ child ++ others)

-- A task by itself, from its present state on, all its spawns taken; then each of its children,
-- numbered from those that it has.
pub record SoloThenChildren (programs : List Program) (t : Task) (bytes : List ℕ)
    (result : List Finished) : Type 0 where
  pub program : Program
  pub there : slice_get programs t.program ≡ Some program
  pub asked : List SpawnRequest
  pub r0 : ℕ
  pub last : State
  pub alone : Solo program (entries_of programs) (state_with t bytes) asked r0 last
  pub children : List Finished
  pub come : ChildrenCome programs t (suc t.children) asked children
  pub is : result ≡ children ++ record {
    ending = ending_of (with_state t last) last r0;
    bytes = last.part;
  } ∷ []

-- what a member comes to: an ended task stays as it is, and a live one is evaluated
abbrev pub MemberComes : List Program → List ℕ → Member → List Finished → Type 0
MemberComes programs buffer (Live t) result =
    Eval programs t (take t.size (drop t.base buffer)) result
MemberComes programs buffer (Ended e) result =
    result ≡ record { ending = e; bytes = take e.size (drop e.base buffer) } ∷ []

abbrev pub MembersCome : List Program → List ℕ → List Member → List Finished → Type 0
MembersCome programs buffer [] result = result ≡ []
MembersCome programs buffer (m ∷ ms) result =
    (own later : List Finished) × MemberComes programs buffer m own
    × MembersCome programs buffer ms later × (result ≡ own ++ later)

-- the ended tasks of a job joined with what its live tasks come to, in the order of their numbers
abbrev pub JobComes : List Program → JobState → List Finished → Type 0
JobComes programs j result = MembersCome programs j.buffer j.tasks result

-- the root at its start
abbrev pub root : ℕ → List ℕ → Task
root credit buffer = record {
  program = 0;
  arg = 0;
  given = credit;
  place = [];
  children = 0;
  slot = 0;
  registers = entry_registers (length buffer) 0;
  stack = replicate 512 0;
  base = 0;
  size = length buffer;
  held = credit;
  used = 0;
}
