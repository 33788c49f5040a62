use Rattle.std.proofs.Common.{◌≡◌, map, string_bytes, take}
use Rattle.explain.specs.Reports.{note_lines}
use Rattle.explain.proofs.report.note_lines.Given as goal

abbrev pub invariant-loop-note : goal.invariant-loop-note
invariant-loop-note l =
    l.text.items ≡ note_lines l.gutter (map string_bytes (take l.note-index l.notes))
