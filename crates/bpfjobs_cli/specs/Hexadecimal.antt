-- Bytes in hexadecimal, with blanks and line ends behind them.
use Rattle.std.specs.Prelude.{◌≡◌, ◌⊎◌, ℕ, ◌-◌, ◌<◌, ◌≤◌, List, length, take, slice_index, Ok, Err}
use Rattle.hex.specs.Hex.{decode_of}
use Rattle.hex.specs.declared.error.FromHexError.{FromHexError}

-- a space, a tab, a carriage return or a line feed
abbrev pub IsTrailing : ℕ → Type 0
IsTrailing byte = (byte ≡ 32) ⊎ (byte ≡ 9) ⊎ (byte ≡ 13) ⊎ (byte ≡ 10)

-- the text without what trails it
pub record IsTrimmed (text trimmed : List ℕ) : Type 0 where
  pub count : ℕ
  pub within : count ≤ length text
  pub taken : trimmed ≡ take count text
  pub trails : (k : ℕ) → count ≤ k → k < length text → IsTrailing (slice_index text k)
  pub last : 0 < count → IsTrailing (slice_index text (count - 1)) → ⊥

-- the text is that of these bytes
pub record IsHexadecimal (text bytes : List ℕ) : Type 0 where
  pub trimmed : List ℕ
  pub cut : IsTrimmed text trimmed
  pub decoded : decode_of trimmed ≡ Ok bytes

-- the text is that of no bytes
pub record IsNoHexadecimal (text : List ℕ) : Type 0 where
  pub trimmed : List ℕ
  pub cut : IsTrimmed text trimmed
  pub why : FromHexError
  pub refused : decode_of trimmed ≡ Err why
