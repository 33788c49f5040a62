-- The trace of a program's run.
use Rattle.std.specs.Prelude.{◌≡◌, ℕ, List, [], ◌∷◌, ◌++◌, Option}
use Rattle.insn_codec.specs.declared.insn.Placed.{Placed}
use Rattle.insn_codec.specs.Spelling.{IsProgram}
use Rattle.helpers.specs.Table.{job_table}
use Rattle.machine_model.specs.Alone.{MayAnswer, EndsAlone, no_entries}
use Rattle.machine_model.specs.Machine.{State, Program, Continues, Ends, effect}
use Rattle.task_trees.specs.Solo.{entering}
use Rattle.verifier.specs.Checked.{Checked, program_of}
use Rattle.verifier.specs.Refusals.{IsAccepted}
use Rattle.reference.specs.Records.{FarWithin}
use Rattle.explain.specs.Lines.{lines_in}
use Rattle.run_trace.specs.declared.step.Step.{Step}
use Rattle.run_trace.specs.declared.tracing.Trace.{Trace}
use Rattle.run_trace.specs.Steps.{IsStep}

-- nobody answers a helper of a caller's, which no program of a job may call
abbrev pub unanswered : MayAnswer
unanswered helper arguments answer = ⊥

-- the steps are those from one state to another, in order
abbrev pub LeadBy : Program → List Placed → List (ℕ × List ℕ) → State → List Step → State → Type 0
LeadBy p placed lines s [] t = s ≡ t
LeadBy p placed lines s (step ∷ steps) t =
    (next : State) × (effect p no_entries s ≡ Continues next) × IsStep placed lines s step next
    × LeadBy p placed lines next steps t

-- The steps are those of the run from this state on, in order, and the last of them ends it.
pub record AreSteps (p : Program) (placed : List Placed) (lines : List (ℕ × List ℕ)) (s : State)
    (steps : List Step) (r0 : ℕ) (last : State) : Type 0 where
  pub front : List Step
  pub final : Step
  pub ahead : State
  pub parts : steps ≡ front ++ final ∷ []
  pub leads : LeadBy p placed lines s front ahead
  pub ends : effect p no_entries ahead ≡ Ends r0 last
  pub told : IsStep placed lines ahead final last

-- The trace of a program of these bytes, of whatever need it is accepted.
pub record IsTrace (code : List ℕ) (source : Option (List ℕ)) (arg credit : ℕ) (memory : List ℕ)
    (trace : Trace) : Type 0 where
  pub placed : List Placed
  pub program : IsProgram placed code
  pub last : State
  pub steps : (need : ℕ) (v : Checked) → IsAccepted need code job_table v
      → AreSteps (program_of v) placed (lines_in source) (entering arg credit memory)
      trace.steps.items trace.r0 last
  pub used : trace.used ≡ last.used
  pub left : trace.part.items ≡ last.part

-- a program of these bytes is accepted, and its run ends
pub record Runs (code : List ℕ) (arg credit : ℕ) (memory : List ℕ) : Type 0 where
  pub need : ℕ
  pub program : Checked
  pub accepted : IsAccepted need code job_table program
  pub r0 : ℕ
  pub last : State
  pub ends : EndsAlone (program_of program) unanswered (entering arg credit memory) r0 last

-- on the run's way a pointer's position has more than 64 bits
pub record RunGoesFar (code : List ℕ) (arg credit : ℕ) (memory : List ℕ) : Type 0 where
  pub need : ℕ
  pub program : Checked
  pub accepted : IsAccepted need code job_table program
  pub steps : ℕ
  pub far : FarWithin (program_of program) unanswered steps (entering arg credit memory)
