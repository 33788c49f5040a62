-- The kinds of files, by their first bytes.
use Rattle.std.specs.Prelude.{ℕ, ◌≡◌, ◌⊎◌, ◌==◌, ◌&&◌, ◌||◌, ◌+◌, ◌<◌, ◌≤◌, Bool, true, false, List, [], ◌∷◌, ◌++◌, codes, drop, length, nat_le, slice_index, take}
use Rattle.std.specs.List.{list_all}
use Rattle.sqlite_pool.specs.Header.{user_version}
use Rattle.journal.specs.Records.{FitsRecord, IsTorn, record_of}
use Rattle.desk_store.specs.declared.file_kinds.FileKind.{FileKind}
use Rattle.desk_store.specs.declared.file_kinds.FileKind.TheVariants.{Blank, Store, LaterStore, OtherDatabase, Journal, Other}

-- the version of a store's tables, behind the three letters TEL
abbrev pub store_version : ℕ
store_version = 1413827585

-- SQLite's header stands at the front, and the first page's own behind it
abbrev pub BeginsDatabase : List ℕ → Type 0
BeginsDatabase bytes = (108 ≤ length bytes) × (take 16 bytes ≡ codes "SQLite format 3" ++ 0 ∷ [])

-- one page, of which the list of tables is empty
abbrev pub IsEmptyDatabase : List ℕ → Type 0
IsEmptyDatabase bytes =
    (length bytes ≡ 4096) × (slice_index bytes 100 ≡ 13) × (slice_index bytes 103 ≡ 0)
    × (slice_index bytes 104 ≡ 0)

-- each byte is zero, or that of the text
abbrev pub is_partly : List ℕ → List ℕ → Bool
is_partly [] text = true
is_partly (byte ∷ bytes) [] = true
is_partly (byte ∷ bytes) (letter ∷ text) =
    (byte == 0 || byte == letter) && is_partly bytes text

-- A first page that wasn't whole yet: its first byte is zero, and SQLite's text may be there in
-- part. Behind the page's header all is zero.
abbrev pub is_half_made : List ℕ → Bool
is_half_made bytes =
    (slice_index bytes 0 == 0) && nat_le (length bytes) 4096
    && is_partly bytes (codes "SQLite format 3" ++ 0 ∷ [])
    && list_all (λ byte. byte == 0) (drop 108 bytes)

-- the version is that of no store, or there is none yet
abbrev pub IsNoStoreVersion : ℕ → Type 0
IsNoStoreVersion version = (version < store_version) ⊎ (store_version + 255 ≤ version)

-- An empty database of another version isn't blank: it is another program's.
abbrev pub IsFileOfKind : List ℕ → FileKind → Type 0
IsFileOfKind bytes Blank =
    ((bytes ≡ []) ⊎ (is_half_made bytes ≡ true)) ⊎ (BeginsDatabase bytes × IsEmptyDatabase bytes
    × ((user_version bytes ≡ 0) ⊎ (user_version bytes ≡ store_version)))
IsFileOfKind bytes Store =
    BeginsDatabase bytes × (user_version bytes ≡ store_version) × (IsEmptyDatabase bytes → ⊥)
IsFileOfKind bytes (LaterStore version) =
    BeginsDatabase bytes × (user_version bytes + 1 ≡ store_version + version) × (1 < version)
IsFileOfKind bytes OtherDatabase =
    BeginsDatabase bytes × IsNoStoreVersion (user_version bytes)
    × (user_version bytes ≡ 0 → IsEmptyDatabase bytes → ⊥)
IsFileOfKind bytes Journal =
    (is_half_made bytes ≡ false) × (BeginsDatabase bytes → ⊥)
    × ((payload rest : List ℕ) × FitsRecord payload × (bytes ≡ record_of payload ++ rest))
IsFileOfKind bytes Other =
    (is_half_made bytes ≡ false) × (BeginsDatabase bytes → ⊥) × IsTorn bytes
