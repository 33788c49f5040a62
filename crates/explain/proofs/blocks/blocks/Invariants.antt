use Rattle.std.proofs.Common.{◌≤◌, ◌-◌, All, length}
use Rattle.explain.specs.Arriving.{subject_of_program}
use Rattle.explain.specs.Blocks.{IsBlock, IsTiled, slots_in}
use Rattle.explain.proofs.blocks.blocks.Given as goal

abbrev pub invariant-loop-first : goal.invariant-loop-first
invariant-loop-first l = record {
  within : l.first ≤ length l.placed;
  tiled : IsTiled l.blocks.items 0 l.first;
  each : All (IsBlock (subject_of_program l.analyzed) (slots_in l.placed)) l.blocks.items;
}

abbrev pub decreases-loop-first : goal.decreases-loop-first
decreases-loop-first l = length l.placed - l.first
