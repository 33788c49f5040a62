-- What is kept of a task between two pieces of its run.
use Rattle.std.specs.Prelude.{◌≡◌, ℕ, ◌≤◌, List, length, Bool, true, false}
use Rattle.insn_codec.specs.declared.insn.Insn.TheVariants.{Call}
use Rattle.machine_model.specs.Machine.{State}
use Rattle.helpers.specs.Piece.{Piece}
use Rattle.verifier.specs.Checked.{Checked}
use Rattle.interpreter.specs.declared.frame.Frame.{Frame}
use Rattle.interpreter.specs.declared.credit.Credit.{Credit}
use Rattle.interpreter.specs.Representation.{AtInsn, IsCovered, RepresentsState, lent}
use Rattle.yielding.specs.declared.event.PieceEnd.{PieceEnd}
use Rattle.yielding.specs.declared.event.PieceEnd.TheVariants as event
use Rattle.yielding.specs.declared.phase.Phase.{Phase}
use Rattle.yielding.specs.declared.phase.Phase.TheVariants.{Ready, Waits, Ended}

-- a task between two pieces: its program, its frame at the next slot, its credit, how many bytes
-- its memory has, and where it stands
pub record PausedTask : Type 0 where
  pub program : Checked
  pub frame : Frame
  pub credit : Credit
  pub len : ℕ
  pub phase : Phase

abbrev pub waits : Phase → Bool
waits Ready = false
waits Waits = true
waits Ended = false

abbrev pub has_ended : Phase → Bool
has_ended Ready = false
has_ended Waits = false
has_ended Ended = true

-- where a task stands after a piece that ended so
abbrev pub phase_after : PieceEnd → Phase
phase_after event.AtLimit = Ready
phase_after (event.Asks question) = Waits
phase_after (event.Ended r0) = Ended

-- the next instruction calls a helper of the host's
abbrev pub IsAsking : Checked → Frame → Piece → Credit → Type 0
IsAsking p frame part credit =
    (helper : ℕ) × (64 ≤ helper) × AtInsn p frame part credit (Call helper)

-- a task may go on, with an answer where it waits for one
abbrev pub MayGo : Checked → Frame → Piece → Credit → Bool → Type 0
MayGo p frame part credit true = IsAsking p frame part credit
MayGo p frame part credit false = IsCovered p frame part credit

-- the task may go on, on any bytes of its length
abbrev pub IsStanding : Checked → Frame → Credit → ℕ → Phase → Type 0
IsStanding p frame credit len phase =
    has_ended phase ≡ false → (bytes : List ℕ) → length bytes ≡ len
    → MayGo p frame (lent bytes) credit (waits phase)

-- the task with these bytes stands for the state
abbrev pub StandsFor : PausedTask → List ℕ → State → Type 0
StandsFor task bytes s = RepresentsState task.program task.frame (lent bytes) task.credit s
