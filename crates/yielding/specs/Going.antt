-- What a task comes to, from its start on.
use Rattle.std.specs.Prelude.{◌≡◌, ℕ, ◌≤◌, List, length, false}
use Rattle.task_trees.specs.Solo.{entering}
use Rattle.verifier.specs.Checked.{Checked, cost_at}
use Rattle.interpreter.specs.declared.credit.Credit.{Credit}
use Rattle.yielding.specs.declared.event.PieceEnd.{PieceEnd}
use Rattle.yielding.specs.declared.event.PieceEnd.TheVariants.{AtLimit, Asks, Ended}
use Rattle.yielding.specs.declared.phase.Phase.TheVariants.{Ready}
use Rattle.yielding.specs.Standing.{PausedTask, StandsFor, has_ended, phase_after, waits}
use Rattle.yielding.specs.Pieces.{GoesPiece}

-- the task stands for that of the program at its start, whatever bytes of this length it works on
pub record IsAtStart (p : Checked) (arg given size : ℕ) (task : PausedTask) : Type 0 where
  pub affords : cost_at p 0 ≤ given
  pub fits : p.need ≤ size
  pub program : task.program ≡ p
  pub len : task.len ≡ size
  pub phase : task.phase ≡ Ready
  pub credit : task.credit ≡ record { held = given; used = 0 }
  pub stands : (bytes : List ℕ) → length bytes ≡ size
      → StandsFor task bytes (entering arg given bytes)

-- what a task leaves that went on, and its memory
pub record HasGone (old : PausedTask) (answer limit : ℕ) (bytes : List ℕ) (event : PieceEnd)
    (new : PausedTask) (bytes' : List ℕ) : Type 0 where
  pub ready : has_ended old.phase ≡ false
  pub length_is : length bytes ≡ old.len
  pub goes : GoesPiece old.program (waits old.phase) answer limit old.frame bytes old.credit event
      new.frame bytes' new.credit
  pub phase : new.phase ≡ phase_after event
  pub size : length bytes' ≡ length bytes

-- no more is used than is held
abbrev pub StaysWithin : PieceEnd → Credit → Type 0
StaysWithin AtLimit credit = credit.used ≤ credit.held
StaysWithin (Asks question) credit = credit.used ≤ credit.held
StaysWithin (Ended r0) credit = Unit {0}
