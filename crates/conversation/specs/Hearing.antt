-- What is heard at the front of the bytes that came.
use Rattle.std.specs.Prelude.{◌≡◌, List, ℕ}
use Rattle.sessions.specs.Frames.{front, whole, partial, too_large}
use Rattle.sessions.specs.Answers.{Hears}
use Rattle.streams.specs.Hearing.{query_of}
use Rattle.conversation.specs.declared.frames.ArrivedFrame.{ArrivedFrame}
use Rattle.conversation.specs.declared.frames.ArrivedFrame.TheVariants.{Waiting, TooLarge, Question}

-- what stands first in the bytes, and the bytes that are left once it is heard
abbrev pub IsArrivedFrame : ArrivedFrame → List ℕ → List ℕ → Type 0
IsArrivedFrame Waiting bytes left = (front bytes ≡ partial) × (left ≡ bytes)
IsArrivedFrame TooLarge bytes left = (front bytes ≡ too_large) × (left ≡ bytes)
IsArrivedFrame (Question request) bytes left =
    (payload : List ℕ) × (front bytes ≡ whole payload left) × Hears payload (query_of request)
