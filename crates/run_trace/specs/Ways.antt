-- What a way of slots passes.
use Rattle.std.specs.Prelude.{◌≡◌, ℕ, ◌+◌, ◌<◌, List, length, slice_index_or}

-- the way passes the slot
abbrev pub IsOnWay : List ℕ → ℕ → Type 0
IsOnWay way slot = (k : ℕ) × (k < length way) × (slice_index_or way k 0 ≡ slot)

-- the way goes from the one slot to the other at once
abbrev pub IsStepOn : List ℕ → ℕ → ℕ → Type 0
IsStepOn way from to = (k : ℕ) × (k + 1 < length way) × (slice_index_or way k 0 ≡ from)
    × (slice_index_or way (k + 1) 0 ≡ to)
