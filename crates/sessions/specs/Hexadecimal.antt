-- Used by private contracts and proofs alone: a hexadecimal digit's value as a number, with another
-- one for what is no digit.
use Rattle.std.specs.Prelude.{◌≡◌, ◌<◌, ◌≤◌, ℕ, List, Option, Some, None, slice_index}
use Rattle.hex.specs.Hex.{hex_digit_value}

abbrev pub coded : Option ℕ → ℕ
coded (Some value) = value
coded None = 255

abbrev pub coded_digit : ℕ → ℕ
coded_digit c = coded (hex_digit_value c)

-- the values of the 64 digits of a block
abbrev pub AreValuesOf : List ℕ → List ℕ → Type 0
AreValuesOf text values = (j : ℕ) → j < 64
    → (slice_index values j ≡ coded_digit (slice_index text j)) × (slice_index values j ≤ 15)
