-- The steps of a run, as C is told them.
use Rattle.std.specs.Prelude.{◌≡◌, ℕ, zero, suc, ◌<◌, ◌≤◌, ◌⊎◌, List, [], ◌∷◌, ◌++◌, length, Option, Some, None}
use Rattle.machine_model.specs.Limits.{max_credit, max_part}
use Rattle.helpers.specs.Table.{job_table}
use Rattle.verifier.specs.declared.refusals.Refusal.{Refusal}
use Rattle.verifier.specs.Checked.{Checked}
use Rattle.verifier.specs.RefusalCodes.{code_of_refusal, slot_of_refusal}
use Rattle.verifier.specs.Refusals.{IsAccepted, RefusesProgram}
use Rattle.virtual_machine.specs.declared.vm_fault.VmFault.{VmFault}
use Rattle.virtual_machine.specs.Executes.{ExecutesOn, IsUnrunnable}
use Rattle.virtual_machine.specs.VmFaultCodes.{code_of_vm_fault}
use Rattle.run_trace.specs.declared.tracing.Trace.{Trace}
use Rattle.run_trace.specs.Traces.{RunGoesFar, IsTrace, unanswered}
use Rattle.telgovan_c.specs.declared.texts.Written.{Written}
use Rattle.telgovan_c.specs.Texts.{IsSourceText, IsTextWritten, refused_text}

-- so many lines, each with a line feed behind it
abbrev pub AreLines : ℕ → List ℕ → Type 0
AreLines zero text = text ≡ []
AreLines (suc n) text =
    (front : List ℕ) × (line : List ℕ) × AreLines n front × (text ≡ (front ++ line) ++ 10 ∷ [])

-- The steps of a run that ends are told, a line each. Or there is no memory, or a pointer's
-- position on the way has more than 64 bits.
pub data AreStepsWritten (code source : List ℕ) (argument credit : ℕ) (memory old new : List ℕ)
    (told : Written) : Type 0 where
  written : (text : Option (List ℕ)) → IsSourceText source text → (trace : Trace)
      → IsTrace code text argument credit memory trace → (lines : List ℕ)
      → AreLines (length trace.steps.items) lines → IsTextWritten lines old new told
      → AreStepsWritten code source argument credit memory old new told
  too_far : RunGoesFar code argument credit memory → new ≡ old → told ≡ refused_text 65 None
      → AreStepsWritten code source argument credit memory old new told
  no_memory : new ≡ old → told ≡ refused_text 99 None
      → AreStepsWritten code source argument credit memory old new told

-- What is told of a program that was accepted, on this memory: the refusal of what is over a limit,
-- else that of a single program, else the steps of its run by itself.
pub data IsProgramTraced (p : Checked) (code source : List ℕ) (argument credit : ℕ)
    (memory old new : List ℕ) (told : Written) : Type 0 where
  over_limit : ((max_credit < credit) ⊎ (max_part < length memory)) → new ≡ old
      → told ≡ refused_text 65 None
      → IsProgramTraced p code source argument credit memory old new told
  stopped : credit ≤ max_credit → length memory ≤ max_part → (fault : VmFault)
      → IsUnrunnable (Some p) credit (length memory) fault → new ≡ old
      → told ≡ refused_text (code_of_vm_fault fault) None
      → IsProgramTraced p code source argument credit memory old new told
  ran : credit ≤ max_credit → length memory ≤ max_part → (r0 used : ℕ) (left : List ℕ)
      → ExecutesOn (Some p) unanswered argument credit memory r0 used left
      → AreStepsWritten code source argument credit memory old new told
      → IsProgramTraced p code source argument credit memory old new told
  no_memory : new ≡ old → told ≡ refused_text 99 None
      → IsProgramTraced p code source argument credit memory old new told

-- a program verified and its run told; or refused
pub data IsTraceTold (need : ℕ) (code source : List ℕ) (argument credit : ℕ)
    (memory old new : List ℕ) (told : Written) : Type 0 where
  accepted : (program : Checked) → IsAccepted need code job_table program
      → IsProgramTraced program code source argument credit memory old new told
      → IsTraceTold need code source argument credit memory old new told
  refused : (refusal : Refusal) → RefusesProgram need code job_table refusal → new ≡ old
      → told ≡ refused_text (code_of_refusal refusal) (slot_of_refusal refusal)
      → IsTraceTold need code source argument credit memory old new told
