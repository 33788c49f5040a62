use Rattle.std.proofs.Common.{◌≡◌, ◌≢◌, ◌≤◌, ◌<◌, ◌-◌, ℕ, Some, length, slice_get}
use Rattle.insn_codec.specs.declared.insn.Placed.{Placed}
use Rattle.explain.proofs.instruction_places.index_of.Given as goal

abbrev pub invariant-loop-index : goal.invariant-loop-index
invariant-loop-index l = record {
  within : l.index ≤ length l.placed;
  others : (k : ℕ) (p : Placed) → k < l.index → slice_get l.placed k ≡ Some p → p.slot ≢ l.slot;
}

abbrev pub decreases-loop-index : goal.decreases-loop-index
decreases-loop-index l = length l.placed - l.index
