-- The parts of a log: the entries of each seat.
use Rattle.std.specs.Prelude.{◌==◌, ℕ, List, [], ◌∷◌, if◌then◌else◌}
use Rattle.seat_log.specs.declared.log_view.SeatEntry.{SeatEntry}

-- the entries of one seat, in order
abbrev pub log_part : {E : Type 0} → ℕ → List (SeatEntry E) → List E
log_part n [] = []
log_part n (e ∷ es) = if e.seat == n then e.entry ∷ log_part n es else log_part n es
