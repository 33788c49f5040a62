-- What an outcome says of its ticket.
use Rattle.std.specs.Prelude.{◌≡◌, List, map, slice_get, Bool, true, false, Some}
use Rattle.machine_model.specs.Machine.{Entries}
use Rattle.machine_model.specs.JobState.{entries_of}
use Rattle.verifier.specs.Checked.{Checked, program_of}
use Rattle.credit_book.specs.declared.task.Ticket.{Ticket}
use Rattle.credit_book.specs.declared.task.Outcome.{Outcome}
use Rattle.task_trees.specs.Solo.{SpawnRequest, IsGiven, entering}
use Rattle.virtual_machine.specs.Through.{RunsAlone}

-- the ticket's task wasn't run
pub record IsUnrun (ticket : Ticket) (outcome : Outcome) : Type 0 where
  pub job : outcome.job ≡ ticket.job
  pub number : outcome.number ≡ ticket.number
  pub ran : outcome.ran ≡ false
  pub used : outcome.used ≡ 0
  pub r0 : outcome.r0 ≡ 0
  pub part : outcome.part ≡ ticket.part

-- the credit and the part of the ticket's task suffice for this program
abbrev pub Suffices : Checked → Ticket → Type 0
Suffices p ticket = IsGiven (program_of p) ticket.held ticket.part.bytes

-- The ticket's task, by itself on this program, while the spawner went `through` what it asked for.
-- The outcome has the place where the part begins. The run is told as whole exactly where none of
-- its spawns was refused.
pub record IsRunBy (p : Checked) (entries : Entries) (ticket : Ticket) (through : List SpawnRequest
    → Type 0) (outcome : Outcome) (whole : Bool) : Type 0 where
  pub job : outcome.job ≡ ticket.job
  pub number : outcome.number ≡ ticket.number
  pub ran : outcome.ran ≡ true
  pub alone : RunsAlone (program_of p) entries (entering ticket.arg ticket.held ticket.part.bytes)
      through outcome.r0 outcome.used outcome.part.bytes whole
  pub base : outcome.part.base ≡ ticket.part.base

-- the ticket's task, by itself on the program that it names, for which its credit and its part
-- suffice
pub record IsRunOf (programs : List Checked) (ticket : Ticket) (through : List SpawnRequest
    → Type 0) (outcome : Outcome) (whole : Bool) : Type 0 where
  pub program : Checked
  pub named : slice_get programs ticket.program ≡ Some program
  pub suffices : Suffices program ticket
  pub run : IsRunBy program (entries_of (map program_of programs)) ticket through outcome whole

abbrev pub by_ran : Bool → Type 0 → Type 0 → Type 0
by_ran true ran unran = ran
by_ran false ran unran = unran

-- The ticket's task was run so, or not at all. Then it isn't whole, and the spawner is as it was.
abbrev pub IsOutcome : List Checked → Ticket → (List SpawnRequest → Type 0) → Type 0 → Outcome
    → Bool → Type 0
IsOutcome programs ticket through silent outcome whole =
    by_ran outcome.ran (IsRunOf programs ticket through outcome whole)
    (IsUnrun ticket outcome × (whole ≡ false) × silent)
