-- Bytes as numbers.
use Rattle.std.specs.Prelude.{ℕ, ◌<◌, List, All}

-- each of these is a byte
abbrev pub AllBytes : List ℕ → Type 0
AllBytes bytes = All (λ b. b < 256) bytes
