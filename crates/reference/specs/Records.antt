-- The reference's records as those of the definitions.
use Rattle.std.specs.Prelude.{◌≡◌, ℕ, zero, suc, ◌^◌, ◌≤◌, ℤ, List, [], ◌∷◌, ◌++◌, map, slice_set, Bool, true, false, Option, Some, None, Result, Ok, Err, slice_index_or, option_map, ◌+◌, ◌⊎◌, slice_get, take, length}
use Rattle.std.specs.Int.{w64}
use Rattle.std.specs.Int.RustNames.{FitsSigned}
use Rattle.reference.specs.declared.records.Content.{Content}
use Rattle.reference.specs.declared.records.Content.TheVariants as content
use Rattle.reference.specs.declared.records.TrapCause.{TrapCause}
use Rattle.reference.specs.declared.records.TrapCause.TheVariants as cause
use Rattle.reference.specs.declared.records.ReferenceProgram.{ReferenceProgram}
use Rattle.reference.specs.declared.records.Running.{Running}
use Rattle.reference.specs.declared.records.Child.{Child}
use Rattle.reference.specs.declared.records.Place.{Place}
use Rattle.reference.specs.declared.records.Place.TheVariants as place
use Rattle.reference.specs.declared.records.SpawnArguments.{SpawnArguments}
use Rattle.reference.specs.declared.records.StepOutcome.{StepOutcome}
use Rattle.reference.specs.declared.records.StepOutcome.TheVariants as outcome
use Rattle.reference.specs.declared.records.LiveTask.{LiveTask}
use Rattle.reference.specs.declared.records.EndedTask.{EndedTask}
use Rattle.reference.specs.declared.records.JobMember.{JobMember}
use Rattle.reference.specs.declared.records.JobMember.TheVariants as member
use Rattle.reference.specs.declared.records.ReferenceJob.{ReferenceJob}
use Rattle.reference.specs.declared.records.ReferenceMove.{ReferenceMove}
use Rattle.reference.specs.declared.records.Change.{Change}
use Rattle.machine_model.specs.JobState.{Task, Ending, Member, Live, Ended, JobState, Move, entries_of, run, state_in}
use Rattle.machine_model.specs.Value.{Value, Unset, Num, Stack, Part, Registers}
use Rattle.machine_model.specs.Machine.{State, Program, Birth, Effect, Continues, Ends, Spawns, Calls, Traps, Trap, UnsetRead, OutsideStack, OutsidePart, WrongKind, OutsideCode, WritesStackEnd, NoHelper, OverSpent, answered, effect}
use Rattle.machine_model.specs.Alone.{MayAnswer, EndsWithin, no_entries}

abbrev pub value_of : Content → Value
value_of content.Unset = Unset
value_of (content.Num n) = Num n
value_of (content.Stack k) = Stack k
value_of (content.Part k) = Part k

-- a register past the list isn't set
abbrev pub registers_of : List Content → Registers
registers_of contents r = value_of (slice_index_or contents r content.Unset)

abbrev pub program_of : ReferenceProgram → Program
program_of p = record {
  need = p.need;
  code = p.code.items;
  costs = p.costs.items;
  registered = λ helper. slice_index_or p.registered.items helper None;
}

abbrev pub state_of : Running → State
state_of t = record {
  slot = t.slot;
  registers = registers_of t.registers;
  stack = t.stack;
  part = t.part.items;
  held = t.held;
  used = t.used;
}

abbrev pub birth_from : Child → Birth
birth_from b = record { program = b.program; share = b.share; arg = b.arg; bytes = b.bytes.items }

abbrev pub trap_of : TrapCause → Trap
trap_of cause.UnsetRead = UnsetRead
trap_of cause.OutsideStack = OutsideStack
trap_of cause.OutsidePart = OutsidePart
trap_of cause.WrongKind = WrongKind
trap_of cause.OutsideCode = OutsideCode
trap_of cause.WritesStackEnd = WritesStackEnd
trap_of cause.NoHelper = NoHelper
trap_of cause.OverSpent = OverSpent

abbrev pub effect_of : StepOutcome → Effect
effect_of (outcome.Continues next) = Continues (state_of next)
effect_of (outcome.Ends r0 last) = Ends r0 (state_of last)
effect_of (outcome.Spawns child taken refused) =
    Spawns (birth_from child) (state_of taken) (state_of refused)
effect_of (outcome.Calls helper arguments caller) = Calls helper arguments (state_of caller)
effect_of (outcome.Traps trap) = Traps (trap_of trap)

-- the reference's numbers and positions have 64 bits
abbrev pub IsFar : Value → Type 0
IsFar (Num n) = 2 ^ 64 ≤ n
IsFar (Stack k) = FitsSigned w64 k → ⊥
IsFar (Part k) = FitsSigned w64 k → ⊥
IsFar Unset = ⊥

abbrev pub IsFarResult : Option Value → Type 0
IsFarResult (Some v) = IsFar v
IsFarResult None = ⊥

abbrev pub IsFarPosition : Option ℤ → Type 0
IsFarPosition (Some k) = FitsSigned w64 k → ⊥
IsFarPosition None = ⊥

-- the task goes on with a position that the reference doesn't have
abbrev pub GoesFar : Effect → Type 0
GoesFar (Continues s) = (r : ℕ) × IsFar (s.registers r)
GoesFar e = ⊥

-- a place that is within a region, or none
abbrev pub at_place : Trap → (ℕ → Effect) → Option ℕ → Effect
at_place trap go (Some at) = go at
at_place trap go None = Traps trap

-- what is read, or why it isn't
abbrev pub holding : (Value → Effect) → Result Content TrapCause → Effect
holding go (Ok c) = go (value_of c)
holding go (Err cause) = Traps (trap_of cause)

-- what is read of two operands, or why it isn't
abbrev pub holding_both : (Value → Value → Effect) → Result (Content × Content) TrapCause → Effect
holding_both go (Ok both) = go (value_of both.0) (value_of both.1)
holding_both go (Err cause) = Traps (trap_of cause)

-- whether a condition holds, or why that isn't known
abbrev pub deciding : (Bool → Effect) → Result Bool TrapCause → Effect
deciding go (Ok b) = go b
deciding go (Err cause) = Traps (trap_of cause)

-- what follows at such a place, or why there is none
abbrev pub placing : (ℕ → Effect) → (ℕ → Effect) → Result Place TrapCause → Effect
placing stack part (Ok (place.Stack at)) = stack at
placing stack part (Ok (place.Part at)) = part at
placing stack part (Err cause) = Traps (trap_of cause)

-- what a spawn asks for, or why nothing can be asked
abbrev pub asking : (ℕ → ℕ → ℕ → ℕ → Effect) → Result SpawnArguments TrapCause → Effect
asking go (Ok r) = go r.program r.share r.cut r.arg
asking go (Err cause) = Traps (trap_of cause)

-- the arguments of a call, or why there are none
abbrev pub passing : (List ℕ → Effect) → Result (List ℕ) TrapCause → Effect
passing go (Ok arguments) = go arguments
passing go (Err cause) = Traps (trap_of cause)

-- a number, or why there is none
abbrev pub counting : (ℕ → Effect) → Result ℕ TrapCause → Effect
counting go (Ok n) = go n
counting go (Err cause) = Traps (trap_of cause)

-- ---- jobs

abbrev pub task_of : LiveTask → Task
task_of t = record {
  program = t.program;
  arg = t.arg;
  given = t.given;
  place = t.place.items;
  children = t.children;
  slot = t.slot;
  registers = registers_of t.registers;
  stack = t.stack;
  base = t.base;
  size = t.size;
  held = t.held;
  used = t.used;
}

abbrev pub ended_of : EndedTask → Ending
ended_of e = record {
  program = e.program;
  arg = e.arg;
  given = e.given;
  place = e.place.items;
  base = e.base;
  size = e.size;
  spent = e.spent;
  rest = e.rest;
  r0 = e.r0;
}

abbrev pub member_of : JobMember → Member
member_of (member.Live t) = Live (task_of t)
member_of (member.Ended e) = Ended (ended_of e)

abbrev pub job_of : ReferenceJob → JobState
job_of j = record { buffer = j.buffer.items; tasks = map member_of j.tasks.items }

abbrev pub move_of : ReferenceMove → Move
move_of m = record { number = m.number; refuses = m.refuses }

abbrev pub born_of : Option LiveTask → List Member
born_of (Some t) = Live (task_of t) ∷ []
born_of None = []

-- the job after a change of task n
abbrev pub changed_by : JobState → ℕ → Change → JobState
changed_by j n c = record {
  buffer = c.buffer.items;
  tasks = slice_set j.tasks n (member_of c.member) ++ born_of c.born;
}

-- nothing after a trap
abbrev pub when : Bool → JobState → Option JobState
when true j = Some j
when false j = None

-- a change, if there is one, or nothing after a trap
abbrev pub step_by : JobState → ℕ → Option (Option Change) → Option JobState
step_by j n None = Some j
step_by j n (Some c) = option_map (changed_by j n) c

-- ---- a program alone

-- what follows an effect, where the task hasn't ended: it may have trapped
abbrev pub Stays : MayAnswer → (State → Type 0) → Effect → Type 0
Stays may on (Continues next) = on next
Stays may on (Ends r0 last) = ⊥
Stays may on (Spawns birth taken refused) = ⊥
Stays may on (Calls helper arguments caller) =
    (answer : ℕ) × may helper arguments answer × on (answered caller answer)
Stays may on (Traps trap) = Unit {0}

-- with some answers, the task doesn't end within so many steps
abbrev pub StaysFor : Program → MayAnswer → ℕ → State → Type 0
StaysFor p may zero s = Unit {0}
StaysFor p may (suc n) s = Stays may (StaysFor p may n) (effect p no_entries s)

-- a helper gives the same answer to the same arguments
abbrev pub IsDeterministic : MayAnswer → Type 0
IsDeterministic may = (helper : ℕ) (arguments : List ℕ) (a b : ℕ) → may helper arguments a
    → may helper arguments b → a ≡ b

-- the task doesn't end within so many steps, whatever is answered
abbrev pub NeverEnds : Program → MayAnswer → ℕ → State → Type 0
NeverEnds p may n s = (r0 : ℕ) (last : State) → EndsWithin p may r0 last n s → ⊥

-- what follows an effect is more than the reference has
abbrev pub FarOn : MayAnswer → (State → Type 0) → Effect → Type 0
FarOn may on (Continues next) = on next
FarOn may on (Ends r0 last) = ⊥
FarOn may on (Spawns birth taken refused) = ⊥
FarOn may on (Calls helper arguments caller) =
    (4294967296 ≤ caller.slot)
    ⊎ ((answer : ℕ) × may helper arguments answer × on (answered caller answer))
FarOn may on (Traps trap) = ⊥

-- within so many steps a task that runs alone may get to more than the reference has
abbrev pub FarWithin : Program → MayAnswer → ℕ → State → Type 0
FarWithin p may zero s = ⊥
FarWithin p may (suc n) s =
    (4294967296 ≤ s.slot)
    ⊎ (GoesFar (effect p no_entries s) ⊎ FarOn may (FarWithin p may n) (effect p no_entries s))

-- a child's base, or its number among its parent's children, is more than the reference has, and
-- the spawn isn't refused
abbrev pub BearsFar : Task → Bool → Effect → Type 0
BearsFar t true e = ⊥
BearsFar t false (Spawns birth taken refused) =
    (2 ^ 64 ≤ t.base + length taken.part) ⊎ (2 ^ 64 ≤ t.children + 1)
BearsFar t false e = ⊥

-- the effect on a task is more than the reference has
abbrev pub IsFarEffect : Task → Bool → Effect → Type 0
IsFarEffect t refuses e = (4294967296 ≤ t.slot) ⊎ (GoesFar e ⊎ BearsFar t refuses e)

-- a step of the number is one of a live task, and its effect is more than the reference has
pub record IsFarStep (programs : List Program) (j : JobState) (n : ℕ) (refuses : Bool) :
    Type 0 where
  pub task : Task
  pub alive : slice_get j.tasks n ≡ Some (Live task)
  pub program : Program
  pub there : slice_get programs task.program ≡ Some program
  pub far : IsFarEffect task refuses (effect program (entries_of programs) (state_in j.buffer task))

-- the step of one of the moves, from the job that the moves before it lead to, is such a step
pub record IsFarRun (programs : List Program) (j : JobState) (moves : List Move) : Type 0 where
  pub count : ℕ
  pub job : JobState
  pub runs : run programs j (take count moves) ≡ Some job
  pub next : Move
  pub there : slice_get moves count ≡ Some next
  pub step : IsFarStep programs job next.number next.refuses
