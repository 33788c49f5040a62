-- Records of a journal, as bytes.
use Rattle.std.specs.Prelude.{◌≡◌, ℕ, ◌<◌, ◌≤◌, ◌^◌, List, [], ◌∷◌, ◌++◌, length, take}
use Rattle.std.specs.List.{AllByRecursion}
use Rattle.std.specs.Int.{w32, to_le_bytes}
use Rattle.journal.specs.Checksums.{crc32}

-- four bytes of length
abbrev pub length_bytes : List ℕ → List ℕ
length_bytes payload = to_le_bytes w32 (length payload)

-- four bytes of checksum, of the length and the payload
abbrev pub checksum_bytes : List ℕ → List ℕ
checksum_bytes payload = to_le_bytes w32 (crc32 (length_bytes payload ++ payload))

-- the bytes in front of a payload
unfoldable pub header_of : List ℕ → List ℕ
header_of payload = length_bytes payload ++ checksum_bytes payload

-- a record
abbrev pub record_of : List ℕ → List ℕ
record_of payload = header_of payload ++ payload

-- a journal: records, one behind the other
abbrev pub journal_of : List (List ℕ) → List ℕ
journal_of [] = []
journal_of (payload ∷ payloads) = record_of payload ++ journal_of payloads

-- a record can hold this payload
abbrev pub FitsRecord : List ℕ → Type 0
FitsRecord payload = length payload < 2 ^ 32

abbrev pub AllFitRecords : List (List ℕ) → Type 0
AllFitRecords payloads = AllByRecursion FitsRecord payloads

-- no whole record stands at the front: nothing is there, or it was cut short or changed
abbrev pub IsTorn : List ℕ → Type 0
IsTorn bytes =
    (payload more : List ℕ) → FitsRecord payload → bytes ≡ record_of payload ++ more → ⊥

-- The bytes are these records, and then a torn tail.
pub record DecodesTo (bytes : List ℕ) (payloads : List (List ℕ)) (tail : List ℕ) : Type 0 where
  pub whole : bytes ≡ journal_of payloads ++ tail
  pub each : AllFitRecords payloads
  pub torn : IsTorn tail

-- so many records are whole within the first n bytes of a journal, and no more
pub record WholeWithin (n : ℕ) (payloads : List (List ℕ)) (count : ℕ) : Type 0 where
  pub there : count ≤ length payloads
  pub within : length (journal_of (take count payloads)) ≤ n
  pub most : (k : ℕ) → k ≤ length payloads → length (journal_of (take k payloads)) ≤ n
      → k ≤ count
