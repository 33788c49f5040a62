-- What is wrong, by any number.
use Rattle.std.specs.Prelude.{ℕ, List, Option, Some, None, codes}
use Rattle.explain.specs.RefusalTexts.{refusal_text}

-- a text, or `unknown` where there is none
abbrev pub or_unknown : Option (List ℕ) → List ℕ
or_unknown None = codes "unknown"
or_unknown (Some text) = text

-- what is wrong where the number is that of a refusal, and else `unknown`
abbrev pub refusal_words : ℕ → List ℕ
refusal_words number = or_unknown (refusal_text number)
