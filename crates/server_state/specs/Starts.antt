-- What the start of a job came to.
use Rattle.std.specs.Prelude.{ℕ, Result, Ok, Err}
use Rattle.server_state.specs.declared.jobs.RefusedStart.{RefusedStart}

-- the number of the refusal, if it was refused
abbrev pub started_by : Result (Unit {0}) RefusedStart → Result (Unit {0}) ℕ
started_by (Ok started) = Ok started
started_by (Err refused) = Err refused.code
