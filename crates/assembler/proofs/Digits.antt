-- Digits.
use Rattle.std.proofs.Common.{ℕ, zero, suc, ◌<◌, List, [], ◌∷◌, length, get_or, arith}
use Rattle.std.specs.Char.{digit_value}
use Rattle.std.specs.Str.Parse.{AllDigits}

pub digit_in : (ds : List ℕ) (i : ℕ) → AllDigits 10 ds → i < length ds → digit_value (get_or ds i 0) < 10
digit_in [] i h lt = absurd (omega arith)
digit_in (d ∷ ds) zero h lt = h.0
digit_in (d ∷ ds) (suc i) h lt = digit_in ds i h.1 (omega arith)
