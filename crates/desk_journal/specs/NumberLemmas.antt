-- Numbers have as many bytes as their width says.
use Rattle.std.proofs.Common.{◌≡◌, ◌≤◌, ℕ, Bool, true, false, List, [], ◌∷◌, ◌++◌, drop, length, ap, lit≤}
use Rattle.std.specs.Int.{w16, w32, w64, to_le_bytes}
use Rattle.desk_journal.specs.Encodings.{bool_bytes}

pub rest_behind_8 : (v w : ℕ) (r s : List ℕ) → to_le_bytes w64 v ++ r ≡ to_le_bytes w64 w ++ s → r ≡ s
rest_behind_8 v w r s same = ap (drop 8) same

pub rest_behind_4 : (v w : ℕ) (r s : List ℕ) → to_le_bytes w32 v ++ r ≡ to_le_bytes w32 w ++ s → r ≡ s
rest_behind_4 v w r s same = ap (drop 4) same

pub rest_behind_2 : (v w : ℕ) (r s : List ℕ) → to_le_bytes w16 v ++ r ≡ to_le_bytes w16 w ++ s → r ≡ s
rest_behind_2 v w r s same = ap (drop 2) same

pub rest_behind_bool : (v w : Bool) (r s : List ℕ) → bool_bytes v ++ r ≡ bool_bytes w ++ s → r ≡ s
rest_behind_bool true true r s same = ap (drop 1) same
rest_behind_bool true false r s same = ap (drop 1) same
rest_behind_bool false true r s same = ap (drop 1) same
rest_behind_bool false false r s same = ap (drop 1) same

pub there_8 : (v : ℕ) → 1 ≤ length (to_le_bytes w64 v)
there_8 v = lit≤ tt

pub there_4 : (v : ℕ) → 1 ≤ length (to_le_bytes w32 v)
there_4 v = lit≤ tt

pub there_2 : (v : ℕ) → 1 ≤ length (to_le_bytes w16 v)
there_2 v = lit≤ tt

pub there_bool : (v : Bool) → 1 ≤ length (bool_bytes v)
there_bool true = lit≤ tt
there_bool false = lit≤ tt

pub rest_behind_1 : (v w : ℕ) (r s : List ℕ) → (v ∷ []) ++ r ≡ (w ∷ []) ++ s → r ≡ s
rest_behind_1 v w r s same = ap (drop 1) same

pub there_1 : (v : ℕ) → 1 ≤ length (v ∷ [])
there_1 v = lit≤ tt
