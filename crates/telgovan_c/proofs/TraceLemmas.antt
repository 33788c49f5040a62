-- What the run of an accepted program tells of its trace.
use Rattle.std.specs.Prelude.{◌≡◌, ℕ, ◌≤◌, List, length, Some, None}
use Rattle.std.proofs.Common.{refl, subst, sym, ap, ◌∙◌}
use Rattle.machine_model.specs.Limits.{max_credit, max_part}
use Rattle.helpers.specs.Table.{job_table}
use Rattle.verifier.specs.Checked.{Checked}
use Rattle.verifier.specs.Refusals.{IsAccepted}
use Rattle.virtual_machine.specs.declared.vm_fault.VmFault.TheVariants.{NoProgram, CreditLow, MemoryShort, NoMemory}
use Rattle.virtual_machine.specs.Executes.{ExecutesOn}
use Rattle.run_trace.specs.Traces.{Runs, unanswered}
use Rattle.telgovan_c.specs.declared.runs.RunOutcome.{RunOutcome}
use Rattle.telgovan_c.specs.declared.texts.Written.{Written}
use Rattle.telgovan_c.specs.Runs.{IsRunOutcome}
use Rattle.telgovan_c.specs.Runs as run
use Rattle.telgovan_c.specs.Texts.{refused_text}
use Rattle.telgovan_c.specs.Traces.{IsProgramTraced, over_limit, stopped}

-- the program ran on these bytes
pub record HasRun (p : Checked) (argument credit : ℕ) (memory : List ℕ) : Type 0 where
  pub small : credit ≤ max_credit
  pub fits : length memory ≤ max_part
  pub r0 : ℕ
  pub used : ℕ
  pub left : List ℕ
  pub executes : ExecutesOn (Some p) unanswered argument credit memory r0 used left

-- a run whose status isn't 0 tells why the program doesn't run
pub not_run : (p : Checked) (code source : List ℕ) (argument credit : ℕ) (memory left room : List ℕ) (done : RunOutcome) (told : Written) → IsRunOutcome p argument credit memory left done → (done.status ≡ 0 → ⊥) → told ≡ refused_text done.status None → IsProgramTraced p code source argument credit memory room room told
not_run p code source argument credit memory left room done told (run.over_limit over same is) some tells =
    over_limit over refl (tells ∙ ap (λ d. refused_text d.status None) is)
not_run p code source argument credit memory left room done told (run.refused small fits fault why same is) some tells =
    stopped small fits fault why refl (tells ∙ ap (λ d. refused_text d.status None) is)
not_run p code source argument credit memory left room done told (run.ran small fits r0 used runs is) some tells =
    absurd (some (ap (λ d. d.status) is))

-- one whose status is 0 ran to its end
pub has_run : (p : Checked) (argument credit : ℕ) (memory left : List ℕ) (done : RunOutcome) → IsRunOutcome p argument credit memory left done → done.status ≡ 0 → HasRun p argument credit memory
has_run p argument credit memory left done (run.over_limit over same is) none =
    absurd (cc (none, is))
has_run p argument credit memory left done (run.refused small fits NoProgram why same is) none = absurd (cc (none, is))
has_run p argument credit memory left done (run.refused small fits (CreditLow wanted given) why same is) none = absurd (cc (none, is))
has_run p argument credit memory left done (run.refused small fits (MemoryShort wanted given) why same is) none = absurd (cc (none, is))
has_run p argument credit memory left done (run.refused small fits NoMemory why same is) none = absurd why
has_run p argument credit memory left done (run.ran small fits r0 used runs is) none =
    record { small = small; fits = fits; r0 = r0; used = used; left = left; executes = runs }

-- a program that is accepted and ran ends
pub runs_to_end : (p : Checked) (need : ℕ) (code : List ℕ) (argument credit : ℕ) (memory : List ℕ) → IsAccepted need code job_table p → HasRun p argument credit memory → Runs code argument credit memory
runs_to_end p need code argument credit memory accepted has =
    let same : has.executes.p ≡ p = cc (has.executes.runnable.set) in
    record {
      need = need;
      program = has.executes.p;
      accepted = subst (λ (q : Checked). IsAccepted need code job_table q) (sym same) accepted;
      r0 = has.r0;
      last = has.executes.runs.last;
      ends = has.executes.runs.ends;
    }
