-- A log's lines, one after the other.
use Rattle.std.proofs.Common.{◌≡◌, ◌∙◌, ◌⊎◌, ◌++◌, ◌∷◌, [], ap, inl, inr, ℕ, List}
use Rattle.std.proofs.lemmas.List.{flat_map_more}
use Rattle.server_log.specs.LogLines.{AreLogLines, log_text}
use Rattle.server_log.specs.declared.log_line.LogForm.{LogForm}
use Rattle.server_log.specs.declared.log_line.LogLine.{LogLine}

-- they stay whole with one more, or with none
pub with_line : (form : LogForm) {before after : List ℕ} (line : LogLine) → AreLogLines form before
    → (after ≡ before ++ log_text form line) ⊎ (after ≡ before) → AreLogLines form after
with_line form line are (inl put) = (
  are.0 ++ line ∷ [],
  put ∙ ap (λ xs. xs ++ log_text form line) are.1 ∙ flat_map_more (log_text form) [] are.0 line,
)
with_line form line are (inr same) = (are.0, same ∙ are.1)
