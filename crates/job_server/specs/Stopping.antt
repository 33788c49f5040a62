-- A stream that a host may stop.
use Rattle.std.specs.Prelude.{◌<◌, ℕ, List, Bool, true, false, min, Option, None, Some}

-- The bytes that a stream has left, where nothing stops it. With a flag it isn't known how many of
-- them come before that is raised.
abbrev pub left_unless : {A : Type 0} → Option A → Option (List ℕ) → Option (List ℕ)
left_unless None left = left
left_unless (Some stop) left = None

-- the nanoseconds that one try waits, of those that are left: a stream that may be stopped is looked
-- at again after a fifth of a second
abbrev pub wait_within : Option ℕ → Bool → Option ℕ
wait_within left false = left
wait_within None true = Some 200_000_000
wait_within (Some left) true = Some (min left 200_000_000)

-- so many nanoseconds are left: some, where there is a time by which all has to be there
abbrev pub IsWaitFor : {A : Type 0} → Option A → Option ℕ → Type 0
IsWaitFor None None = Unit {0}
IsWaitFor (Some due) (Some left) = 0 < left
IsWaitFor due left = ⊥
