-- What is known of a program that is accepted, of its reference.
use Rattle.std.proofs.Common.{◌≡◌, ◌∙◌, ℕ, List, Option, ap, subst, sym}
use Rattle.insn_codec.specs.declared.insn.Placed.{Placed}
use Rattle.insn_codec.specs.Spelling.{IsProgram}
use Rattle.flow_graph.specs.Program.{code_of}
use Rattle.helpers.specs.Table.{Table, arity_in, job_table}
use Rattle.machine_model.specs.Alone.{EndsWithin, no_entries}
use Rattle.machine_model.specs.Machine.{Program, State, effect}
use Rattle.reference.specs.Records.{FarWithin}
use Rattle.task_trees.specs.Solo.{entering}
use Rattle.verifier.specs.Checked.{Checked, program_of}
use Rattle.verifier.specs.Refusals.{HasFlow, IsAccepted}
use Rattle.verifier.proofs.OneVerdict.{one_program}
use Rattle.explain.specs.Lines.{lines_in}
use Rattle.run_trace.specs.declared.tracing.Trace.{Trace}
use Rattle.run_trace.specs.Following.{ReachesEnd, FollowsTo, IsReference}
use Rattle.run_trace.specs.Traces.{AreSteps, IsTrace, unanswered}
use Rattle.run_trace.proofs.SameEffect.{same_effect, same_end}
use Rattle.run_trace.proofs.SameTrace.{far_same, steps_same}

module _ (need : ℕ) (bytes : List ℕ) (v : Checked) (placed : List Placed) (accepted : IsAccepted need bytes job_table v) (program : IsProgram placed bytes) where
  same_code : v.code ≡ code_of placed
  same_code = accepted.decoded.2 ∙ ap code_of (one_program accepted.decoded.0 placed bytes accepted.decoded.1 program)

  pub accepted_flow : HasFlow (code_of placed)
  accepted_flow = subst HasFlow same_code accepted.flow

  module _ (p : Program) (reference : IsReference placed p) where
    alike : (s : State) → effect (program_of v) no_entries s ≡ effect p no_entries s
    alike = same_effect (program_of v) p (same_code ∙ sym reference.code)
        (λ helper. ap (λ (t : Table). arity_in t helper) accepted.same_helpers ∙ sym (reference.registered helper))

    back : (s : State) → effect p no_entries s ≡ effect (program_of v) no_entries s
    back s = sym (alike s)

    pub ending_of : (s : State) (r0 : ℕ) (last : State) (n : ℕ) → EndsWithin (program_of v) unanswered r0 last n s → ReachesEnd p s
    ending_of s r0 last n ends = record {
      steps = n;
      r0 = r0;
      last = last;
      ends = same_end (program_of v) p (same_code ∙ sym reference.code)
          (λ helper. ap (λ (t : Table). arity_in t helper) accepted.same_helpers ∙ sym (reference.registered helper)) r0 last n s ends;
    }

    pub far_of : (n : ℕ) (s : State) → FarWithin p unanswered n s → FarWithin (program_of v) unanswered n s
    far_of n s far = far_same p (program_of v) back n s far

    pub steps_of : (lines : List (ℕ × List ℕ)) (s : State) (trace : Trace) (f : FollowsTo p placed lines s trace) → AreSteps (program_of v) placed lines s trace.steps.items trace.r0 f.last
    steps_of lines s trace f = steps_same p (program_of v) back placed lines s trace.steps.items trace.r0 f.last f.steps

pub trace_of : (bytes : List ℕ) (source : Option (List ℕ)) (arg credit : ℕ) (memory : List ℕ) (trace : Trace) (placed : List Placed) (p : Program) → IsProgram placed bytes →
    IsReference placed p → FollowsTo p placed (lines_in source) (entering arg credit memory) trace → IsTrace bytes source arg credit memory trace
trace_of bytes source arg credit memory trace placed p program reference f = record {
  placed = placed;
  program = program;
  last = f.last;
  steps = λ need v accepted. steps_of need bytes v placed accepted program p reference (lines_in source) (entering arg credit memory) trace f;
  used = f.used;
  left = f.left;
}
