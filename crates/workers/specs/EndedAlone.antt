-- What a report says of a task that ran by itself, and of one that wasn't run.
use Rattle.std.specs.Prelude.{◌≡◌, ◌+◌, List, map, slice_get, Bool, true, false, Some, ℕ}
use Rattle.machine_model.specs.Machine.{State}
use Rattle.machine_model.specs.JobState.{entries_of}
use Rattle.verifier.specs.Checked.{Checked, program_of}
use Rattle.credit_book.specs.declared.event.TaskEnd.{TaskEnd}
use Rattle.task_trees.specs.Solo.{SpawnRequest, IsGiven, Solo, entering}

-- A task of this program, argument and credit gives this R0 and uses so much by itself, on some
-- part that suffices for the program and under some answers. The rest is what it holds at its end
-- and didn't use.
pub record GivesAlone (programs : List Checked) (number arg given r0 used rest : ℕ) : Type 0 where
  pub program : Checked
  pub named : slice_get programs number ≡ Some program
  pub bytes : List ℕ
  pub suffices : IsGiven (program_of program) given bytes
  pub asked : List SpawnRequest
  pub last : State
  pub alone : Solo (program_of program) (entries_of (map program_of programs))
      (entering arg given bytes) asked r0 last
  pub used_is : used ≡ last.used
  pub rest_is : used + rest ≡ last.held

pub record WasNotRun (end : TaskEnd) : Type 0 where
  pub ran : end.ran ≡ false
  pub spent : end.spent ≡ 0
  pub rest : end.rest ≡ end.given
  pub r0 : end.r0 ≡ 0

-- a task that ran has the R0, the use and the rest that it has by itself, and any other spent
-- nothing and returned all
abbrev pub ended_alone : Bool → List Checked → TaskEnd → Type 0
ended_alone true programs end = GivesAlone programs end.program end.arg end.given end.r0 end.spent
    end.rest
ended_alone false programs end = WasNotRun end

abbrev pub EndedAlone : List Checked → TaskEnd → Type 0
EndedAlone programs end = ended_alone end.ran programs end
