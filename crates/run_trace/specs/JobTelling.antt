-- Used by private contracts alone: one step of a job is told.
use Rattle.std.specs.Prelude.{◌≡◌, ℕ, List, Bool, Option, Some, None}
use Rattle.insn_codec.specs.declared.insn.Placed.{Placed}
use Rattle.flow_graph.specs.Program.{code_of}
use Rattle.machine_model.specs.Machine.{State, Program, Entries, Effect, Continues, Ends, Spawns, Calls, Traps, effect}
use Rattle.run_trace.specs.declared.job_step.JobStep.{JobStep}
use Rattle.run_trace.specs.JobSteps.{TellsEffect}

-- the effect of an instruction of this list on a task in this state
pub record IsEffectIn (placed : List Placed) (s : State) (e : Effect) : Type 0 where
  pub program : Program
  pub entries : Entries
  pub code : program.code ≡ code_of placed
  pub is : effect program entries s ≡ e

-- after the effect a job doesn't go on
abbrev pub Stops : Effect → Type 0
Stops (Continues next) = ⊥
Stops (Ends r0 last) = ⊥
Stops (Spawns birth taken refused) = ⊥
Stops (Calls helper arguments caller) = Unit {0}
Stops (Traps trap) = Unit {0}

-- what is told of an effect: nothing where the job doesn't go on
abbrev pub IsToldBy : List Placed → ℕ → ℕ → Bool → State → Option JobStep → Effect → Type 0
IsToldBy placed number count refuses s None e = Stops e
IsToldBy placed number count refuses s (Some told) e =
    (told.task ≡ number) × TellsEffect placed count refuses s told e
