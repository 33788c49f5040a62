-- Sums over live tasks.
use Rattle.std.specs.Prelude.{ℕ, Option, Some, None}
use Rattle.job_core.specs.declared.live.Live.{Live}

-- what a live task has used
abbrev pub used_of : Option Live → ℕ
used_of None = 0
used_of (Some live) = live.credit.used
