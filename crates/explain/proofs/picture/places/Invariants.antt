use Rattle.std.proofs.Common.{◌≡◌, ℕ, Some, length, map, slice_get}
use Rattle.explain.specs.declared.explanation.InstructionPlace.{InstructionPlace}
use Rattle.explain.specs.Blocks.{IsNumbered}
use Rattle.explain.specs.Lines.{numbered_text}
use Rattle.explain.proofs.picture.places.Given as goal

abbrev pub invariant-loop-index : goal.invariant-loop-index
invariant-loop-index l = record {
  long : length l.places.items ≡ l.index;
  each : (k : ℕ) (place : InstructionPlace) → slice_get l.places.items k ≡ Some place → IsNumbered l.placed (map numbered_text l.lines) k place;
}
