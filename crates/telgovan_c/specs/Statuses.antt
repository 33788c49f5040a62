-- What a status says, and what to do about it.
use Rattle.std.specs.Prelude.{ℕ, nat_lt, ◌==◌, List, [], Option, Some, None, codes, if◌then◌else◌}
use Rattle.explain.specs.RefusalTexts.{refusal_help}
use Rattle.explain.specs.RefusalWords.{refusal_words}

-- `done` for 0, the refusal's words for its number, and `unknown` for any other
abbrev pub status_words : ℕ → List ℕ
status_words status = if status == 0 then codes "done" else (
    if nat_lt status 256 then refusal_words status else codes "unknown")

-- a text, or an empty one
abbrev pub or_empty : Option (List ℕ) → List ℕ
or_empty None = []
or_empty (Some text) = text

-- what to do about the refusal of this number, and nothing for any other
abbrev pub status_help : ℕ → List ℕ
status_help status = if nat_lt status 256 then or_empty (refusal_help status) else []
