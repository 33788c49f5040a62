-- The bytes of a change of a desk and of the keys beside it.
use Rattle.std.specs.Prelude.{ℕ, List, ◌∷◌, ◌++◌}
use Rattle.std.specs.Int.{w64, to_le_bytes}
use Rattle.desk_journal.specs.DeskChanges.{change_bytes}
use Rattle.desk_journal.specs.Encodings.{counted_bytes}
use Rattle.keyed_desk.specs.declared.keyed_change.KeyedChange.{KeyedChange}
use Rattle.keyed_desk.specs.declared.keyed_change.KeyedChange.TheVariants.{Plain, ByKey, KeyKept}

-- a change of the desk with these bytes, by a key
abbrev pub by_key_bytes : List ℕ → List ℕ → List ℕ
by_key_bytes key change = 5 ∷ (counted_bytes key ++ change)

-- a job's key
abbrev pub key_kept_bytes : ℕ → List ℕ → List ℕ
key_kept_bytes job key = 11 ∷ (to_le_bytes w64 job ++ counted_bytes key)

abbrev pub keyed_bytes : KeyedChange → List ℕ
keyed_bytes (Plain change) = change_bytes change
keyed_bytes (ByKey key change) = by_key_bytes key.items (change_bytes change)
keyed_bytes (KeyKept job key) = key_kept_bytes job key.items
