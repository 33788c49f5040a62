-- The keyed jobs that are remembered in one place, and the marks by which a key is found among them.
use Rattle.std.specs.Prelude.{ℕ, ◌*◌, ◌%◌, ◌^◌, Bool, List, [], ◌∷◌, bit_xor, map}
use Rattle.sessions.specs.declared.job_key.KeyedJob.{KeyedJob}

-- What contracts see of keyed jobs that are remembered: these, oldest first, and whether there is
-- memory for as many as will ever be.
pub record RememberedJobs : Type 0 where
  pub jobs : List KeyedJob
  pub has_room : Bool

-- FNV-1a over these bytes, from a mark on
abbrev pub marked : ℕ → List ℕ → ℕ
marked mark [] = mark
marked mark (byte ∷ bytes) = marked ((bit_xor mark byte * 1099511628211) % 2 ^ 64) bytes

-- the mark of a key
unfoldable pub mark_of : List ℕ → ℕ
mark_of key = marked 14695981039346656037 key

-- the mark of each job's key
abbrev pub marks_of : List KeyedJob → List ℕ
marks_of = map (λ keyed. mark_of keyed.key)
