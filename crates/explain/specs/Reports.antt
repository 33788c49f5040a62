-- A refusal as text in the form of rustc's errors.
use Rattle.std.specs.Prelude.{ℕ, List, [], ◌++◌, codes, length, map, string_bytes, Bool, Option, Some, None, if◌then◌else◌}
use Rattle.std.specs.Fmt.{decimal}
use Rattle.std.specs.List.{flat_map}
use Rattle.std.proofs.Math.ListN.{replicate}
use Rattle.explain.specs.declared.lines.SourceLine.{SourceLine}
use Rattle.explain.specs.declared.report.LineMark.{LineMark}
use Rattle.explain.specs.declared.report.RefusalReport.{RefusalReport}

-- what turns a terminal's text red and bold, and what turns it back
abbrev pub red : Bool → List ℕ
red is_coloured = if is_coloured then codes "\u{1b}[1;31m" else []

abbrev pub plain : Bool → List ℕ
plain is_coloured = if is_coloured then codes "\u{1b}[0m" else []

-- so many blanks
abbrev pub blanks : ℕ → List ℕ
blanks count = replicate count 32

-- how wide the number of a line is, and 1 where there is no line
abbrev pub gutter_of : Option SourceLine → ℕ
gutter_of None = 1
gutter_of (Some line) = length (decimal line.number)

-- `error[N]: ` and the words
abbrev pub title_text : RefusalReport → List ℕ
title_text r = red r.is_coloured ++ (codes "error[" ++ (decimal r.number ++ (codes "]"
    ++ (plain r.is_coloured ++ (codes ": " ++ (r.words.now ++ codes "\n"))))))

-- what stands below a line: so many marks behind so many blanks
abbrev pub mark_text : Bool → LineMark → List ℕ
mark_text is_coloured mark =
    blanks mark.start
    ++ (red is_coloured ++ (replicate mark.length 94 ++ (plain is_coloured ++ codes "\n")))

-- the file and the number of the line
abbrev pub head_text : ℕ → List ℕ → SourceLine → List ℕ
head_text gutter file line = blanks gutter ++ (codes "--> " ++ (file ++ (codes ":"
    ++ (decimal line.number ++ codes "\n"))))

-- the line itself
abbrev pub excerpt_text : ℕ → SourceLine → List ℕ
excerpt_text gutter line = blanks gutter ++ (codes " |\n" ++ (decimal line.number ++ (codes " | "
    ++ (line.text.now ++ codes "\n"))))

-- what is marked of it
abbrev pub underline_text : ℕ → Bool → LineMark → List ℕ
underline_text gutter is_coloured mark =
    blanks gutter ++ (codes " | " ++ mark_text is_coloured mark)

-- the file, and its line with what is marked of it
abbrev pub report_place : RefusalReport → Option SourceLine → List ℕ
report_place r None = codes " --> " ++ (r.file.now ++ codes "\n")
report_place r (Some line) = head_text (gutter_of (Some line)) r.file.now line
    ++ (excerpt_text (gutter_of (Some line)) line
    ++ underline_text (gutter_of (Some line)) r.is_coloured r.mark)

-- a line of what is known, or of what helps
abbrev pub note_line : ℕ → List ℕ → List ℕ
note_line gutter note = blanks gutter ++ (codes " = " ++ (note ++ codes "\n"))

abbrev pub note_lines : ℕ → List (List ℕ) → List ℕ
note_lines gutter notes = flat_map (note_line gutter) notes

-- the title, the place and the notes
abbrev pub report_text : RefusalReport → List ℕ
report_text r =
    title_text r ++ (report_place r r.line ++ note_lines (gutter_of r.line) (map string_bytes r.notes.now))
