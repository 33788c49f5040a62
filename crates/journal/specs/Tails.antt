-- The bytes behind the whole records of a journal.
use Rattle.std.specs.Prelude.{◌≡◌, ◌≢◌, ℕ, ◌+◌, ◌<◌, List, [], ◌∷◌, ◌++◌, length, take, drop, if◌then◌else◌, nat_le}
use Rattle.std.specs.Int.{w32, from_le_bytes}
use Rattle.journal.specs.Records.{record_of, FitsRecord, IsTorn}
use Rattle.journal.specs.declared.inspection.TailKind.{TailKind}
use Rattle.journal.specs.declared.inspection.TailKind.TheVariants.{Empty, Torn, Damaged, Unsearched}

-- the length that the four bytes at the front claim
abbrev pub claimed_length : List ℕ → ℕ
claimed_length bytes = from_le_bytes w32 (take 4 bytes)

-- the bytes of payload whose checksum tells whether a record stands at the front
unfoldable pub check_cost : List ℕ → ℕ
check_cost bytes =
    if nat_le (8 + claimed_length bytes) (length bytes) then claimed_length bytes else 0

-- the same for each place of these bytes, in all
abbrev pub search_cost : List ℕ → ℕ
search_cost [] = 0
search_cost (byte ∷ bytes) = check_cost (byte ∷ bytes) + search_cost bytes

-- no whole record stands at any place
abbrev pub HasNoRecord : List ℕ → Type 0
HasNoRecord bytes = (place : ℕ) → IsTorn (drop place bytes)

-- a whole record stands at this place, and none at an earlier one
pub record HasFirstRecordAt (bytes : List ℕ) (place : ℕ) : Type 0 where
  pub payload : List ℕ
  pub more : List ℕ
  pub fits : FitsRecord payload
  pub stands : drop place bytes ≡ record_of payload ++ more
  pub first : (earlier : ℕ) → earlier < place → IsTorn (drop earlier bytes)

-- the bytes are a tail of this kind; a search that costs more than the budget may be left undone
abbrev pub IsTail : List ℕ → ℕ → TailKind → Type 0
IsTail bytes budget Empty = bytes ≡ []
IsTail bytes budget Torn = (bytes ≢ []) × HasNoRecord bytes
IsTail bytes budget (Damaged place) = HasFirstRecordAt bytes place
IsTail bytes budget Unsearched = (bytes ≢ []) × (budget < search_cost bytes)
