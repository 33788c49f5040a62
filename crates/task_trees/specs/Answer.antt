-- The answer of a job, which each run without refusals has.
use Rattle.std.specs.Prelude.{◌≡◌, ◌↔◌, ℕ, List, [], ◌∷◌, map, All, Contains, length, take, drop, replicate, slice_get, sum_by, true, false, Some}
use Rattle.std.specs.List.Sorted.{IsPermutation}
use Rattle.machine_model.specs.Memory.{written}
use Rattle.machine_model.specs.Machine.{State, Program, Birth, Spawns, effect}
use Rattle.machine_model.specs.JobState.{Task, Ending, Member, Live, Ended, JobState, Move, entries_of, spent_by, state_in, start, step, run, IsComplete}
use Rattle.task_trees.specs.Eval.{Finished, Eval, root}

-- the ended tasks of a job, with the bytes that they left, in the order of their numbers
abbrev pub ended_in : List ℕ → List Member → List Finished
ended_in buffer [] = []
ended_in buffer (Live t ∷ ms) = ended_in buffer ms
ended_in buffer (Ended e ∷ ms) =
    record { ending = e; bytes = take e.size (drop e.base buffer) } ∷ ended_in buffer ms

-- the bytes that these tasks left, each at its base, in a buffer of this length
abbrev pub joined_bytes : ℕ → List Finished → List ℕ
joined_bytes size [] = replicate size 0
joined_bytes size (f ∷ fs) = written (joined_bytes size fs) f.ending.base f.bytes

-- the credit that they used, as one sum
abbrev pub spent_in : List Finished → ℕ
spent_in fs = sum_by (λ f. f.ending.spent) fs

-- one of them, at this place, ended with R0
pub record EndsAt (fs : List Finished) (place : List ℕ) (r0 : ℕ) : Type 0 where
  pub finished : Finished
  pub is_one : Contains fs finished
  pub there : finished.ending.place ≡ place
  pub word : finished.ending.r0 ≡ r0

-- an ended task of the job, at this place, ended with R0
pub record HasEndedAt (j : JobState) (place : List ℕ) (r0 : ℕ) : Type 0 where
  pub number : ℕ
  pub ending : Ending
  pub has_ended : slice_get j.tasks number ≡ Some (Ended ending)
  pub there : ending.place ≡ place
  pub word : ending.r0 ≡ r0

-- The job's buffer, which has so many bytes, the credit that its ended tasks spent and their R0s by
-- place are those of the finished tasks; and these are its ended tasks, each once, in some order.
pub record HasAnswer (size : ℕ) (j : JobState) (fs : List Finished) : Type 0 where
  pub buffer : j.buffer ≡ joined_bytes size fs
  pub long : length j.buffer ≡ size
  pub spent : sum_by spent_by j.tasks ≡ spent_in fs
  pub r0s : (place : List ℕ) (r0 : ℕ) → HasEndedAt j place r0 ↔ EndsAt fs place r0
  pub tasks : IsPermutation (ended_in j.buffer j.tasks) fs

-- no entry of a schedule is refused its spawn
abbrev pub NoRefusals : List Move → Type 0
NoRefusals moves = All (λ m. m.refuses ≡ false) moves

-- what the root of a job comes to
abbrev pub RootComes : List Program → ℕ → List ℕ → List Finished → Type 0
RootComes programs credit buffer fs = Eval programs (root credit buffer) buffer fs

-- the number is that of a live task, whose next step is a spawn that passes its tests
pub record IsSpawn (programs : List Program) (j : JobState) (n : ℕ) : Type 0 where
  pub task : Task
  pub alive : slice_get j.tasks n ≡ Some (Live task)
  pub program : Program
  pub there : slice_get programs task.program ≡ Some program
  pub birth : Birth
  pub taken : State
  pub refused : State
  pub is : effect program (entries_of programs) (state_in j.buffer task) ≡ Spawns birth taken
      refused

-- a move that refuses is at such a step: what it refuses is a spawn
abbrev pub RefuseSpawns : List Program → JobState → List Move → Type 0
RefuseSpawns programs j [] = Unit {0}
RefuseSpawns programs j (m ∷ ms) = (m.refuses ≡ true → IsSpawn programs j m.number)
    × ((k : JobState) → step programs j m.number m.refuses ≡ Some k → RefuseSpawns programs k ms)

-- The moves over this schedule lead from the root to the job, and refuse nothing but spawns. Where
-- they refuse none and the job is complete, it has the answer of its root.
pub record PlaysToAnswer (programs : List Program) (credit : ℕ) (buffer : List ℕ)
    (schedule : List ℕ) (last : JobState) : Type 0 where
  pub moves : List Move
  pub numbers : map (λ (m : Move). m.number) moves ≡ schedule
  pub runs : run programs (start credit buffer) moves ≡ Some last
  pub refusals : RefuseSpawns programs (start credit buffer) moves
  pub answer : NoRefusals moves → IsComplete last → (fs : List Finished)
      × RootComes programs credit buffer fs
      × HasAnswer (length buffer) last fs
