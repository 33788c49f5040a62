-- What a handle holds, and what C's calls do with it.
use Rattle.std.specs.Prelude.{◌≡◌, ◌≢◌, ℕ, List, length, Option, None, Some}
use Rattle.std.specs.Arc.{arc_value}
use Rattle.helpers.specs.Table.{job_table}
use Rattle.verifier.specs.declared.refusals.Refusal.{Refusal}
use Rattle.verifier.specs.Checked.{Checked, cost_at}
use Rattle.verifier.specs.Refusals.{IsAccepted, RefusesProgram}
use Rattle.telgovan_c.specs.declared.boxed.Boxed.{Boxed}
use Rattle.telgovan_c.specs.declared.program_handle.ProgramHandle.{ProgramHandle}
use Rattle.telgovan_c.specs.declared.runs.Run.{Run}
use Rattle.telgovan_c.specs.declared.runs.RunOutcome.{RunOutcome}
use Rattle.telgovan_c.specs.declared.verdicts.Verdict.{Verdict}
use Rattle.telgovan_c.specs.Runs.{IsRunOutcome, RunInTurn, refused_run}
use Rattle.telgovan_c.specs.Verdicts.{accepted_verdict, refused_verdict}

-- the program of a box, if there is one
abbrev pub shown : Option Boxed → Option Checked
shown None = None
shown (Some boxed) = Some (arc_value boxed.program)

-- the program that the handle holds, if it holds one
abbrev pub held_program : ProgramHandle → Option Checked
held_program p = shown p.held.kept

-- the handle holds the program of these bytes; or that is refused, and the handle holds what it
-- held
pub data IsLoaded (need : ℕ) (code : List ℕ) (old new : Option Checked) (verdict : Verdict) :
    Type 0 where
  loaded : (program : Checked) → IsAccepted need code job_table program → new ≡ Some program
      → verdict ≡ accepted_verdict program → IsLoaded need code old new verdict
  refused : (refusal : Refusal) → RefusesProgram need code job_table refusal → new ≡ old
      → verdict ≡ refused_verdict refusal → IsLoaded need code old new verdict

-- A run of the program that the handle holds, if it holds one. One that may call helpers of the
-- host's isn't run.
pub data IsHeldRun (program : Option Checked) (argument credit : ℕ) (old new : List ℕ)
    (told : RunOutcome) : Type 0 where
  ran : (p : Checked) → program ≡ Some p → p.helpers ≡ job_table
      → IsRunOutcome p argument credit old new told
      → IsHeldRun program argument credit old new told
  may_ask : (p : Checked) → program ≡ Some p → p.helpers ≢ job_table → new ≡ old
      → told ≡ refused_run 48 → IsHeldRun program argument credit old new told
  empty : program ≡ None → new ≡ old → told ≡ refused_run 41
      → IsHeldRun program argument credit old new told

-- the program that the handle holds, if it holds one, run on each piece in turn
pub data IsHeldBurst (program : Option Checked) (credit : ℕ) (old new : List ℕ)
    (asked told : List Run) (status : ℕ) : Type 0 where
  ran : (p : Checked) → program ≡ Some p → p.helpers ≡ job_table → length told ≡ length asked
      → RunInTurn p credit old asked told (length asked) new → status ≡ 0
      → IsHeldBurst program credit old new asked told status
  may_ask : (p : Checked) → program ≡ Some p → p.helpers ≢ job_table → told ≡ asked → new ≡ old
      → status ≡ 48 → IsHeldBurst program credit old new asked told status
  empty : program ≡ None → told ≡ asked → new ≡ old → status ≡ 41
      → IsHeldBurst program credit old new asked told status

-- the other handle holds the same program; or there is none, or no memory, and it holds what it
-- held
pub data SharesProgram (program old new : Option Checked) (status : ℕ) : Type 0 where
  shared : (p : Checked) → program ≡ Some p → new ≡ Some p → status ≡ 0
      → SharesProgram program old new status
  empty : program ≡ None → new ≡ old → status ≡ 41 → SharesProgram program old new status
  no_memory : (p : Checked) → program ≡ Some p → new ≡ old → status ≡ 99
      → SharesProgram program old new status

-- the cost is that of the program that the handle holds, if it holds one
pub data IsHeldCost (program : Option Checked) (old new status : ℕ) : Type 0 where
  told : (p : Checked) → program ≡ Some p → new ≡ cost_at p 0 → status ≡ 0
      → IsHeldCost program old new status
  empty : program ≡ None → new ≡ old → status ≡ 41 → IsHeldCost program old new status
