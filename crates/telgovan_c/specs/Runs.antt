-- Runs over the caller's memory, as C sees them.
use Rattle.std.specs.Prelude.{◌≡◌, ℕ, zero, suc, ◌+◌, ◌<◌, ◌≤◌, ◌⊎◌, List, ◌++◌, length, take, drop, slice_range, slice_get, Some}
use Rattle.machine_model.specs.Limits.{max_credit, max_part}
use Rattle.helpers.specs.Table.{job_table}
use Rattle.verifier.specs.declared.refusals.Refusal.{Refusal}
use Rattle.verifier.specs.Checked.{Checked}
use Rattle.verifier.specs.RefusalCodes.{code_of_refusal}
use Rattle.verifier.specs.Refusals.{IsAccepted, RefusesProgram}
use Rattle.run_trace.specs.Traces.{unanswered}
use Rattle.virtual_machine.specs.declared.vm_fault.VmFault.{VmFault}
use Rattle.virtual_machine.specs.Executes.{ExecutesOn, IsUnrunnable}
use Rattle.virtual_machine.specs.VmFaultCodes.{code_of_vm_fault}
use Rattle.telgovan_c.specs.declared.verdicts.Verdict.{Verdict}
use Rattle.telgovan_c.specs.declared.runs.RunOutcome.{RunOutcome}
use Rattle.telgovan_c.specs.declared.runs.Run.{Run}
use Rattle.telgovan_c.specs.Verdicts.{accepted_verdict, refused_verdict}

abbrev pub refused_run : ℕ → RunOutcome
refused_run number = record { r0 = 0; status = number; used = 0 }

-- What the program comes to on these bytes: the refusal of what is over a limit, else that of a
-- single program, else its run by itself.
pub data IsRunOutcome (p : Checked) (argument credit : ℕ) (old new : List ℕ) (told : RunOutcome) :
    Type 0 where
  over_limit : ((max_credit < credit) ⊎ (max_part < length old)) → new ≡ old → told ≡ refused_run 65
      → IsRunOutcome p argument credit old new told
  refused : credit ≤ max_credit → length old ≤ max_part → (fault : VmFault)
      → IsUnrunnable (Some p) credit (length old) fault → new ≡ old
      → told ≡ refused_run (code_of_vm_fault fault) → IsRunOutcome p argument credit old new told
  ran : credit ≤ max_credit → length old ≤ max_part → (r0 used : ℕ)
      → ExecutesOn (Some p) unanswered argument credit old r0 used new
      → told ≡ record { r0 = r0; status = 0; used = used }
      → IsRunOutcome p argument credit old new told

-- A run on its piece of the memory, where that has such a piece. Nothing else of the memory
-- changes.
pub data RunsInPlace (p : Checked) (credit : ℕ) (old new : List ℕ) (run : Run) (told : RunOutcome) :
    Type 0 where
  inside : run.start + run.length ≤ length old → (left : List ℕ)
      → IsRunOutcome p run.argument credit (slice_range old run.start (run.start + run.length)) left
      told → new ≡ take run.start old ++ (left ++ drop (run.start + run.length) old)
      → RunsInPlace p credit old new run told
  outside : length old < run.start + run.length → new ≡ old → told ≡ refused_run 43
      → RunsInPlace p credit old new run told

abbrev pub with_outcome : Run → RunOutcome → Run
with_outcome run told =
    record { start = run.start; length = run.length; argument = run.argument; outcome = told }

-- the run of this number, told
pub record IsTurn (p : Checked) (credit : ℕ) (old new : List ℕ) (asked told : List Run) (n : ℕ) :
    Type 0 where
  pub run : Run
  pub outcome : RunOutcome
  pub there : slice_get asked n ≡ Some run
  pub set : slice_get told n ≡ Some (with_outcome run outcome)
  pub comes : RunsInPlace p credit old new run outcome

-- the first so many runs, each on the memory that the one before leaves
abbrev pub RunInTurn : Checked → ℕ → List ℕ → List Run → List Run → ℕ → List ℕ → Type 0
RunInTurn p credit old asked told zero new = new ≡ old
RunInTurn p credit old asked told (suc n) new =
    (before : List ℕ) × RunInTurn p credit old asked told n before
    × IsTurn p credit before new asked told n

-- a program verified once and run on each piece in turn; or refused, where nothing changes
pub data IsBurst (need : ℕ) (code : List ℕ) (credit : ℕ) (old new : List ℕ) (asked told : List Run)
    (verdict : Verdict) : Type 0 where
  ran : (program : Checked) → IsAccepted need code job_table program
      → verdict ≡ accepted_verdict program → length told ≡ length asked
      → RunInTurn program credit old asked told (length asked) new
      → IsBurst need code credit old new asked told verdict
  refused : (refusal : Refusal) → RefusesProgram need code job_table refusal
      → verdict ≡ refused_verdict refusal → told ≡ asked → new ≡ old
      → IsBurst need code credit old new asked told verdict

-- a program verified and run once; or refused, where nothing changes
pub data IsSingle (need : ℕ) (code : List ℕ) (argument credit : ℕ) (old new : List ℕ)
    (told : RunOutcome) : Type 0 where
  ran : (program : Checked) → IsAccepted need code job_table program
      → IsRunOutcome program argument credit old new told
      → IsSingle need code argument credit old new told
  refused : (refusal : Refusal) → RefusesProgram need code job_table refusal
      → told ≡ refused_run (code_of_refusal refusal) → new ≡ old
      → IsSingle need code argument credit old new told
