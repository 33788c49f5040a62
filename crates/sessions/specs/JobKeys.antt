-- The keys of submits, by which a door remembers jobs.
use Rattle.std.specs.Prelude.{ℕ, ◌-◌, List, [], ◌∷◌, ◌++◌, length, drop, if◌then◌else◌, Option, Some, None}
use Rattle.std.specs.Str.{bytes_eq}
use Rattle.sessions.specs.declared.job_key.KeyedJob.{KeyedJob}

-- the job of a key, by the first of these that has it
abbrev pub job_among : List KeyedJob → List ℕ → Option ℕ
job_among [] key = None
job_among (keyed ∷ keys) key =
    if bytes_eq keyed.key key then Some keyed.job else job_among keys key

-- of these keyed jobs, oldest first, the last 1,000: those that a door remembers
abbrev pub latest : List KeyedJob → List KeyedJob
latest keys = drop (length keys - 1000) keys

-- the same behind one keyed job more
abbrev pub noted : List KeyedJob → ℕ → List ℕ → List KeyedJob
noted keys job key = latest (keys ++ record { job = job; key = key } ∷ [])
