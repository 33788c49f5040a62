-- Which jobs the tasks that a world keeps represent.
use Rattle.std.specs.Prelude.{◌≡◌, ◌↔◌, ℕ, ◌≤◌, List, ◌++◌, map, length, take, drop, slice_get, sum_by, Bool, true, false, Option, Some, None}
use Rattle.machine_model.specs.Limits.{max_credit}
use Rattle.machine_model.specs.declared.program.Entry.{Entry}
use Rattle.machine_model.specs.JobState as job
use Rattle.machine_model.specs.JobState.{JobState, Task, Member, state_in, AreTiles, Move, start, step, run, entry_of, credit_of, spent_by, returned_by, IsAlive, IsComplete}
use Rattle.machine_model.specs.Machine.{Program}
use Rattle.verifier.specs.Checked.{Checked, program_of, IsVerified}
use Rattle.interpreter.specs.Representation.{RepresentsTask, IsCovered, state_of}
use Rattle.task_trees.specs.Families.{AreParents}
use Rattle.task_trees.specs.Answer.{HasAnswer, NoRefusals, RefuseSpawns, RootComes}
use Rattle.task_trees.specs.Eval.{Finished}
use Rattle.job_core.specs.Admitted.{AreOwn, AdmittedJob}
use Rattle.job_core.specs.declared.live.Live.{Live}
use Rattle.credit_book.specs.declared.event.TaskEnd.{TaskEnd}
use Rattle.job_core.specs.declared.tasks.Stepped.{Stepped}
use Rattle.job_core.specs.declared.tasks.Stepped.TheVariants.{Skipped, Went, Ended}

-- What a world keeps: the programs, what a spawn has to know of each, the live tasks by number,
-- what the report says of each task, the parent of each task after the root, the bytes of ended
-- parts where they lie in the buffer, the credit that ended tasks spent and returned, and what was
-- issued.
pub record WorldState : Type 0 where
  pub programs : List Checked
  pub entries : List Entry
  pub lives : List (Option Live)
  pub ends : List TaskEnd
  pub parents : List ℕ
  pub collected : List ℕ
  pub spent : ℕ
  pub returned : ℕ
  pub issued : ℕ

-- what the report says of a member
abbrev pub end_of : ℕ → Member → TaskEnd
end_of n (job.Live t) = record {
  number = n;
  program = t.program;
  arg = t.arg;
  given = t.given;
  spent = 0;
  rest = 0;
  r0 = 0;
  ran = false;
}
end_of n (job.Ended e) = record {
  number = n;
  program = e.program;
  arg = e.arg;
  given = e.given;
  spent = e.spent;
  rest = e.rest;
  r0 = e.r0;
  ran = true;
}

-- what is kept of the task represents it, and its program covers it
pub record IsTaskOf (p : Checked) (buffer : List ℕ) (live : Live) (t : Task) : Type 0 where
  pub program : t.program ≡ live.program
  pub state : state_in buffer t ≡ state_of live.frame live.part live.credit t.registers
  pub base : t.base ≡ live.part.base
  pub size : t.size ≡ length live.part.bytes
  pub behind : RepresentsTask p live.frame t.registers
  pub covered : IsCovered p live.frame live.part live.credit

-- the number's task is live
pub record IsLive (kept : WorldState) (buffer : List ℕ) (n : ℕ) (t : Task) : Type 0 where
  pub live : Live
  pub there : slice_get kept.lives n ≡ Some (Some live)
  pub checked : Checked
  pub program : slice_get kept.programs live.program ≡ Some checked
  pub is : IsTaskOf checked buffer live t

-- the number's task has ended, and its bytes are collected
pub record IsCollected (kept : WorldState) (buffer : List ℕ) (n : ℕ) (e : job.Ending) : Type 0 where
  pub gone : slice_get kept.lives n ≡ Some None
  pub bytes : take e.size (drop e.base buffer) ≡ take e.size (drop e.base kept.collected)

abbrev pub IsMemberOf : WorldState → List ℕ → ℕ → Member → Type 0
IsMemberOf kept buffer n (job.Live t) = IsLive kept buffer n t
IsMemberOf kept buffer n (job.Ended e) = IsCollected kept buffer n e

-- each task is kept under its number, and nothing else is
pub record RepresentsTasks (kept : WorldState) (j : JobState) : Type 0 where
  pub lives : length kept.lives ≡ length j.tasks
  pub ends : length kept.ends ≡ length j.tasks
  pub each : (n : ℕ) (m : Member) → slice_get j.tasks n ≡ Some m → IsMemberOf kept j.buffer n m
  pub each_end : (n : ℕ) (m : Member) → slice_get j.tasks n ≡ Some m
      → slice_get kept.ends n ≡ Some (end_of n m)
  pub spent : kept.spent ≡ sum_by spent_by j.tasks
  pub returned : kept.returned ≡ sum_by returned_by j.tasks

-- the programs were verified for a job's helpers, and the entries are theirs
pub record AreEntries (programs : List Checked) (entries : List Entry) : Type 0 where
  pub are : entries ≡ map (λ p. entry_of (program_of p)) programs
  pub verified : (n : ℕ) (p : Checked) → slice_get programs n ≡ Some p → IsVerified p
  pub own : AreOwn programs

-- what is kept represents the job
pub record RepresentsJob (kept : WorldState) (j : JobState) : Type 0 where
  pub entries : AreEntries kept.programs kept.entries
  pub kept_are : RepresentsTasks kept j
  pub tiles : AreTiles j.tasks (length j.buffer)
  pub parents : AreParents kept.parents j.tasks
  pub size : length kept.collected ≡ length j.buffer
  pub credit : credit_of j ≡ kept.issued
  pub limit : kept.issued ≤ max_credit

-- what a step of a number is answered, from one job to the next
abbrev pub StepAnswers : Stepped → JobState → ℕ → JobState → Type 0
StepAnswers Skipped j n k = (IsAlive j n → ⊥) × (k ≡ j)
StepAnswers Went j n k = IsAlive j n × IsAlive k n
StepAnswers (Ended r0) j n k =
    IsAlive j n × ((e : job.Ending) × (slice_get k.tasks n ≡ Some (job.Ended e)) × (e.r0 ≡ r0))

-- the next job behind, if a spawn here is refused or not
abbrev pub Steps : WorldState → JobState → ℕ → Stepped → WorldState → Type 0
Steps old j n out new =
    (refuses : Bool) × (k : JobState) × (step (map program_of old.programs) j n refuses ≡ Some k)
    × RepresentsJob new k × StepAnswers out j n k

-- the moves lead to a job with the credit that was issued
pub record Reaches (programs : List Program) (j : JobState) (moves : List Move) : Type 0 where
  pub job : JobState
  pub runs : run programs j moves ≡ Some job
  pub credit : credit_of job ≡ credit_of j

-- no live task is kept
abbrev pub IsFinished : WorldState → Type 0
IsFinished kept = (n : ℕ) (live : Live) → slice_get kept.lives n ≡ Some (Some live) → ⊥

-- A run over the schedule, for some choice of refusals, leads from the job to one behind what is
-- kept, which has these programs. Each of its beginnings keeps the credit, and no live task is kept
-- exactly if the last job is complete.
pub record Plays (programs : List Checked) (j : JobState) (schedule : List ℕ) (kept : WorldState) :
    Type 0 where
  pub same_programs : kept.programs ≡ programs
  pub moves : List Move
  pub numbers : map (λ (m : Move). m.number) moves ≡ schedule
  pub last : JobState
  pub runs : run (map program_of programs) j moves ≡ Some last
  pub behind : RepresentsJob kept last
  pub always : (i : ℕ) → Reaches (map program_of programs) j (take i moves)
  pub complete : IsFinished kept ↔ IsComplete last

-- The run over the schedule refuses nothing but spawns. Where it refuses none and its last job is
-- complete, that has the answer of the job's root.
pub record PlaysJob (order : AdmittedJob) (schedule : List ℕ) (kept : WorldState) : Type 0 where
  pub plays : Plays order.programs (start order.credit order.buffer) schedule kept
  pub refusals : RefuseSpawns (map program_of order.programs) (start order.credit order.buffer)
      plays.moves
  pub answer : NoRefusals plays.moves → IsComplete plays.last → (fs : List Finished)
      × RootComes (map program_of order.programs) order.credit order.buffer fs
      × HasAnswer (length order.buffer) plays.last fs

-- Every run to what was kept goes on along these numbers to what is kept.
pub record PlaysOn (old : WorldState) (numbers : List ℕ) (new : WorldState) : Type 0 where
  pub programs : new.programs ≡ old.programs
  pub plays : (j : JobState) (schedule : List ℕ) → Plays old.programs j schedule old
      → Plays old.programs j (schedule ++ numbers) new
