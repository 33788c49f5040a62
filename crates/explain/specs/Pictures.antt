-- What a picture of a program shows.
use Rattle.std.specs.Prelude.{ℕ, ◌≤◌, List, Option, MatchOption}
use Rattle.machine_model.specs.Limits.{max_part}
use Rattle.helpers.specs.Table.{Table}
use Rattle.insn_codec.specs.declared.insn.Placed.{Placed}
use Rattle.insn_codec.specs.Spelling.{IsProgram}
use Rattle.flow_graph.specs.Program.{code_of}
use Rattle.verifier.specs.Refusals.{HasFlow}
use Rattle.explain.specs.declared.picture.Picture.{Picture}
use Rattle.explain.specs.Blocks.{AreBlocks, AreInstructionPlaces}
use Rattle.explain.specs.Lines.{AreLinesFor}
use Rattle.explain.specs.Told.{IsAllowed, IsTold}

-- The program has a graph. Shown are its instructions, its basic blocks, and why it is refused, if
-- it is.
pub record IsPicture (need : ℕ) (code : List ℕ) (helpers : Table) (source : Option (List ℕ))
    (picture : Picture) : Type 0 where
  pub small : need ≤ max_part
  pub placed : List Placed
  pub program : IsProgram placed code
  pub flow : HasFlow (code_of placed)
  pub lines : List (ℕ × List ℕ)
  pub from : AreLinesFor code source lines
  pub places : AreInstructionPlaces placed lines picture.places.items
  pub blocks : AreBlocks (record { need = need; helpers = helpers; code = code_of placed }) placed
      picture.blocks.items
  pub why : MatchOption picture.why (IsAllowed need code helpers)
      (λ why. IsTold need code helpers source why)
