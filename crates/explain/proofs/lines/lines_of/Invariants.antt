use Rattle.std.proofs.Common.{◌≡◌, ◌≤◌, ◌+◌, ◌++◌, length, map}
use Rattle.std.specs.List.{slice_split}
use Rattle.assembler.specs.Source.{is_line_feed, numbered, source_lines}
use Rattle.explain.specs.Lines.{numbered_text}
use Rattle.explain.proofs.lines.lines_of.Given as goal

abbrev pub invariant-loop-lines : goal.invariant-loop-lines
invariant-loop-lines l = record {
  parts : source_lines l.source ≡ map numbered_text l.lines.items ++ numbered l.number (slice_split is_line_feed l.rest);
  count : l.number + length l.rest ≤ length l.source + 1;
}

abbrev pub decreases-loop-lines : goal.decreases-loop-lines
decreases-loop-lines l = length l.rest
