-- What is printed, and the status.
use Rattle.std.specs.Prelude.{◌≡◌, ℕ, List, [], ◌∷◌, ◌++◌, codes, Option, Some, None}
use Rattle.std.specs.Fmt.{decimal}
use Rattle.serde_json.specs.Data.{Data}
use Rattle.serde_json.specs.Written.{compact_text}
use Rattle.sessions.specs.Replies.{refusal_data}

-- a text, a status and the number of a refusal, if it is one, are these
abbrev pub Prints : List ℕ → ℕ → Option ℕ → List ℕ → ℕ → Option ℕ → Type 0
Prints text status code line number refusal =
    (text ≡ line) × (status ≡ number) × (code ≡ refusal)

-- `refused N`, or `refused N at K`
abbrev pub refusal_line : ℕ → Option ℕ → List ℕ
refusal_line number None = codes "refused " ++ (decimal number ++ codes "\n")
refusal_line number (Some place) =
    codes "refused " ++ (decimal number ++ (codes " at " ++ (decimal place ++ codes "\n")))

-- `accepted cost C`
abbrev pub accepted_line : ℕ → List ℕ
accepted_line cost = codes "accepted cost " ++ (decimal cost ++ codes "\n")

-- a reply's JSON
abbrev pub reply_line : Data → List ℕ
reply_line value = compact_text value ++ 10 ∷ []

abbrev pub refusal_reply : ℕ → Option ℕ → Option ℕ → List ℕ
refusal_reply code program slot = reply_line (refusal_data code program slot)
