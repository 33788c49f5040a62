-- A buffer with live parts where they lie.
use Rattle.std.specs.Prelude.{ℕ, List, [], ◌∷◌, Option, Some, None}
use Rattle.machine_model.specs.Memory.{written}
use Rattle.job_core.specs.declared.live.Live.{Live}

-- the part of one task, if it is alive
abbrev pub put : Option Live → List ℕ → List ℕ
put None buffer = buffer
put (Some live) buffer = written buffer live.part.base live.part.bytes

-- those of all tasks in turn
abbrev pub filled_buffer : List (Option Live) → List ℕ → List ℕ
filled_buffer [] buffer = buffer
filled_buffer (live ∷ lives) buffer = filled_buffer lives (put live buffer)
