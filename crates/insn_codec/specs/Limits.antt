-- The limit of a program's bytes: our profile has programs of at most 4,096 slots.
use Rattle.std.specs.Prelude.{ℕ}

abbrev pub max_slots : ℕ
max_slots = 4096
