-- The verdict on a program, as C sees it.
use Rattle.std.specs.Prelude.{◌≡◌, ℕ, List, true, false, Option, Some, None}
use Rattle.helpers.specs.Table.{job_table}
use Rattle.verifier.specs.declared.refusals.Refusal.{Refusal}
use Rattle.verifier.specs.Checked.{Checked, cost_at}
use Rattle.verifier.specs.RefusalCodes.{code_of_refusal, slot_of_refusal}
use Rattle.verifier.specs.Refusals.{IsAccepted, RefusesProgram}
use Rattle.telgovan_c.specs.declared.verdicts.Verdict.{Verdict}

abbrev pub accepted_verdict : Checked → Verdict
accepted_verdict program =
    record { status = 0; cost = cost_at program 0; slot = 0; has_slot = false }

-- with a slot where the refusal tells one
abbrev pub refused_at : ℕ → Option ℕ → Verdict
refused_at number None = record { status = number; cost = 0; slot = 0; has_slot = false }
refused_at number (Some slot) = record { status = number; cost = 0; slot = slot; has_slot = true }

abbrev pub refused_verdict : Refusal → Verdict
refused_verdict refusal = refused_at (code_of_refusal refusal) (slot_of_refusal refusal)

-- the verdict on these bytes, as a program of this need that calls the helpers of a job
pub data IsVerdict (need : ℕ) (code : List ℕ) (verdict : Verdict) : Type 0 where
  accepted : (program : Checked) → IsAccepted need code job_table program
      → verdict ≡ accepted_verdict program → IsVerdict need code verdict
  refused : (refusal : Refusal) → RefusesProgram need code job_table refusal
      → verdict ≡ refused_verdict refusal → IsVerdict need code verdict
