-- The numbers of jobs of many desks at one pool.
use Rattle.std.specs.Prelude.{ℕ, ◌+◌, ◌-◌, ◌*◌, ◌^◌, min}
use Rattle.streams.specs.declared.submit_refusal.SubmitRefusal.{SubmitRefusal}
use Rattle.streams.specs.declared.submit_refusal.SubmitRefusal.TheVariants.{NotTaken, NotStarted}

-- A job's number at the pool, by its number at its own desk and the desk's place. There are fewer
-- than 1,000 places, so that no two jobs have one number.
abbrev pub placed : ℕ → ℕ → ℕ
placed number place = number * 1000 + place

-- the same refusal, with the job's number at the pool
abbrev pub placed_refusal : ℕ → SubmitRefusal → SubmitRefusal
placed_refusal place (NotTaken code) = NotTaken code
placed_refusal place (NotStarted job code) = NotStarted (min (placed job place) (2 ^ 64 - 1)) code
