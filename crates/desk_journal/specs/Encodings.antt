-- Values as bytes.
use Rattle.std.specs.Prelude.{ℕ, Bool, true, false, List, [], ◌∷◌, ◌++◌, length}
use Rattle.std.specs.Int.{w64, to_le_bytes}

-- bytes behind their number
abbrev pub counted_bytes : List ℕ → List ℕ
counted_bytes bytes = to_le_bytes w64 (length bytes) ++ bytes

-- the bytes of each, one behind the other
abbrev pub bytes_of_all : {X : Type 0} → (X → List ℕ) → List X → List ℕ
bytes_of_all bytes [] = []
bytes_of_all bytes (x ∷ xs) = bytes x ++ bytes_of_all bytes xs

-- the same behind their number
abbrev pub list_bytes : {X : Type 0} → (X → List ℕ) → List X → List ℕ
list_bytes bytes xs = to_le_bytes w64 (length xs) ++ bytes_of_all bytes xs

-- 1 for true, and 0 for false
abbrev pub bool_bytes : Bool → List ℕ
bool_bytes true = 1 ∷ []
bool_bytes false = 0 ∷ []
