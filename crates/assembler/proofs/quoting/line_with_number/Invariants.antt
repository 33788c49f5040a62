use Rattle.std.proofs.Common.{◌≡◌, ◌+◌, ◌≤◌, length}
use Rattle.std.specs.List.{slice_split}
use Rattle.std.specs.Str.{IsUtf8}
use Rattle.assembler.specs.Source.{is_line_feed, numbered, source_lines}
use Rattle.assembler.specs.Quoted.{line_numbered}
use Rattle.assembler.proofs.quoting.line_with_number.Given as goal

abbrev pub invariant-loop-at : goal.invariant-loop-at
invariant-loop-at l = record {
  found : line_numbered l.number (source_lines l.source) ≡ line_numbered l.number (numbered l.at (slice_split is_line_feed l.rest));
  count : l.at + length l.rest ≤ length l.source + 1;
  text : IsUtf8 l.source → IsUtf8 l.rest;
}

abbrev pub decreases-loop-at : goal.decreases-loop-at
decreases-loop-at l = length l.rest
