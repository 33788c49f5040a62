-- How a conversation ends.
use Rattle.std.specs.Prelude.{◌≡◌, ℕ, List, ◌++◌}
use Rattle.sessions.specs.Frames.{front, too_large}
use Rattle.streams.specs.Serves.{Serves}
use Rattle.streams.specs.Stops.{IsStarved, too_large_reply}
use Rattle.conversation.specs.declared.ended.Ended.{Ended}
use Rattle.conversation.specs.declared.ended.Ended.TheVariants.{TooLarge, NoMemory}

abbrev pub code_of_ending : Ended → ℕ
code_of_ending TooLarge = 71
code_of_ending NoMemory = 99

-- what is to be sent, where a length over the limit is answered
abbrev pub IsRefused : Ended → List ℕ → List ℕ → Type 0
IsRefused TooLarge before after = after ≡ before ++ too_large_reply
IsRefused NoMemory before after = after ≡ before

-- From a state, the bytes that came and what was to be sent: a length over the limit came, and
-- every frame ahead of it is answered, and so is the length. Or there was no memory: frames are
-- answered up to some frame, by whole replies, and the reply to the next one is lost, if that was
-- heard.
abbrev pub IsEnded : {S : Type 0} → Ended → (S → List ℕ → List ℕ → S → Type 0) → S
    → List ℕ → List ℕ → S → List ℕ → Type 0
IsEnded TooLarge answers start bytes before end after =
    (count : ℕ) × (left : List ℕ) × (out : List ℕ)
    × Serves answers start bytes before count end left out × (front left ≡ too_large)
    × (after ≡ out ++ too_large_reply)
IsEnded NoMemory answers start bytes before end after =
    IsStarved answers start bytes before end after
