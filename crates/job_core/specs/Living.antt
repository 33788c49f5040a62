-- A live task, as it is seen.
use Rattle.std.specs.Prelude.{ℕ}
use Rattle.helpers.specs.Piece.{Piece}
use Rattle.interpreter.specs.declared.frame.Frame.{Frame}
use Rattle.interpreter.specs.declared.credit.Credit.{Credit}

-- the number of its program, its frame, its part and its credit
pub record Living : Type 0 where
  pub program : ℕ
  pub frame : Frame
  pub part : Piece
  pub credit : Credit
