-- Used by private contracts and proofs alone: a run that is followed, step by step.
use Rattle.std.specs.Prelude.{◌≡◌, ℕ, List}
use Rattle.insn_codec.specs.declared.insn.Placed.{Placed}
use Rattle.flow_graph.specs.Program.{code_of}
use Rattle.helpers.specs.Table.{arity_in, job_table}
use Rattle.machine_model.specs.Alone.{EndsWithin}
use Rattle.machine_model.specs.Machine.{State, Program}
use Rattle.run_trace.specs.declared.tracing.Trace.{Trace}
use Rattle.run_trace.specs.Traces.{AreSteps, unanswered}

-- a program has these instructions, and may call the helpers of a job
pub record IsReference (placed : List Placed) (p : Program) : Type 0 where
  pub code : p.code ≡ code_of placed
  pub registered : (helper : ℕ) → p.registered helper ≡ arity_in job_table helper

-- the task ends
pub record ReachesEnd (p : Program) (s : State) : Type 0 where
  pub steps : ℕ
  pub r0 : ℕ
  pub last : State
  pub ends : EndsWithin p unanswered r0 last steps s

-- the trace has the steps from the state on
pub record FollowsTo (p : Program) (placed : List Placed) (lines : List (ℕ × List ℕ)) (s : State)
    (trace : Trace) : Type 0 where
  pub last : State
  pub steps : AreSteps p placed lines s trace.steps.items trace.r0 last
  pub used : trace.used ≡ last.used
  pub left : trace.part.items ≡ last.part
