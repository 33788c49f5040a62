-- What stands at the front of a stream.
use Rattle.std.specs.Prelude.{◌≡◌, List, ℕ}
use Rattle.sessions.specs.Frames.{front, whole, partial, too_large}
use Rattle.streams.specs.declared.serve.NextFrame.{NextFrame}
use Rattle.streams.specs.declared.serve.NextFrame.TheVariants.{Waiting, TooLarge, Whole}

-- what stands first in the bytes, and the bytes that are left once it is taken
abbrev pub TakesFront : NextFrame → List ℕ → List ℕ → Type 0
TakesFront Waiting bytes left = (front bytes ≡ partial) × (left ≡ bytes)
TakesFront TooLarge bytes left = (front bytes ≡ too_large) × (left ≡ bytes)
TakesFront (Whole frame) bytes left = front bytes ≡ whole frame.items left
