use Rattle.std.proofs.Common.{◌≤◌, ◌+◌, length}
use Rattle.std.specs.List.{slice_split}
use Rattle.assembler.specs.Source.{is_line_feed, source_lines}
use Rattle.assembler.proofs.SourceLines.{IsPartly}
use Rattle.assembler.proofs.source.insns_from.Given as goal

abbrev pub invariant-loop-insns : goal.invariant-loop-insns
invariant-loop-insns l = record {
  partly : IsPartly (source_lines l.source) l.number (slice_split is_line_feed l.rest) l.insns.items;
  count : l.number + length l.rest ≤ length l.source + 1;
}

abbrev pub decreases-loop-insns : goal.decreases-loop-insns
decreases-loop-insns l = length l.rest
