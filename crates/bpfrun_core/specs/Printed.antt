-- What is printed of a run, or of a refusal.
use Rattle.std.specs.Prelude.{◌≡◌, ◌⊎◌, ◌<◌, ◌==◌, ℕ, List, [], ◌++◌, codes, length, Option, Some, None, option_map}
use Rattle.std.specs.Fmt.{decimal}
use Rattle.std.specs.List.{after_first, position_or_len}
use Rattle.hex.specs.Hex.{encode_lower}
use Rattle.explain.specs.declared.report.RefusalReport.{RefusalReport}
use Rattle.explain.specs.Lines.{numbered_text}
use Rattle.explain.specs.Reports.{report_text}
use Rattle.bpfrun_core.specs.declared.fault.RunFault.{RunFault}
use Rattle.bpfrun_core.specs.Faults.{number_of_run_fault}

-- `memory` and its bytes in hexadecimal, where it is shown
abbrev pub memory_line : Option (List ℕ) → List ℕ
memory_line None = []
memory_line (Some bytes) = codes "memory " ++ (encode_lower bytes ++ codes "\n")

-- `r0 R` and `spent N`, a line each
abbrev pub run_lines : ℕ → ℕ → List ℕ
run_lines r0 used = codes "r0 "
    ++ (decimal r0 ++ (codes "\nspent " ++ (decimal used ++ codes "\n")))

abbrev pub ran_text : ℕ → ℕ → Option (List ℕ) → List ℕ
ran_text r0 used shown = run_lines r0 used ++ memory_line shown

-- a colon and what is quoted, where something is
abbrev pub quote_text : Option (List ℕ) → List ℕ
quote_text None = []
quote_text (Some part) = codes ": `" ++ (part ++ codes "`")

-- the words stand behind the first blank of the text; they are all of it where there is none
abbrev pub AreWordsOf : List ℕ → List ℕ → Type 0
AreWordsOf text words =
    ((position_or_len (λ b. b == 32) text < length text)
    × (words ≡ after_first (λ b. b == 32) text))
    ⊎ ((position_or_len (λ b. b == 32) text ≡ length text) × (words ≡ text))

-- A report of the refusal's number, with words and what is quoted behind them, of the file, and of
-- the line that the refusal is about.
pub record IsRefusalText (file : List ℕ) (fault : RunFault) (quote : Option (List ℕ))
    (place : Option (ℕ × List ℕ)) (text : List ℕ) : Type 0 where
  pub report : RefusalReport
  pub number : report.number ≡ number_of_run_fault fault
  pub named : report.file.now ≡ file
  pub words : List ℕ
  pub quoted : report.words.now ≡ words ++ quote_text quote
  pub about : option_map numbered_text report.line ≡ place
  pub same : text ≡ report_text report
