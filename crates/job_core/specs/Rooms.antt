-- The room of live tasks' parts.
use Rattle.std.specs.Prelude.{ℕ, List, Option, Some, None, slice_index_or}
use Rattle.job_core.specs.declared.live.Live.{Live}

abbrev pub room_of : Option Live → Option ℕ
room_of (Some live) = Some live.part.room
room_of None = None

-- the room of a task's part, if the task of this number is alive
abbrev pub room_at : List (Option Live) → ℕ → Option ℕ
room_at lives number = room_of (slice_index_or lives number None)
