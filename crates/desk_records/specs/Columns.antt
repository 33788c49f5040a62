-- The number of a row, and the values of single columns.
use Rattle.std.specs.Prelude.{ℕ, ◌+◌, ◌*◌, if◌then◌else◌, nat_lt}

-- a desk numbers its jobs below this
abbrev pub most_numbers : ℕ
most_numbers = 100000000000000

-- the number of the row of a desk's job: in decimal, the desk and then 14 digits of the job
abbrev pub id_of : ℕ → ℕ → ℕ
id_of desk number = desk * 100000000000000 + number

-- a number below the limit is itself
abbrev pub number_below : ℕ → ℕ → ℕ
number_below limit number = if nat_lt number limit then number else 0
