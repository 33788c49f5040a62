-- What a server counts of its events, and what its counters come to.
use Rattle.std.specs.Prelude.{◌≡◌, ℕ, ◌+◌, ◌-◌, ◌==◌, List, [], ◌∷◌, ◌++◌, Option, Some, None, if◌then◌else◌}
use Rattle.sessions.specs.declared.server_totals.ConnectionTotals.{ConnectionTotals}
use Rattle.sessions.specs.declared.server_totals.JobTotals.{JobTotals}
use Rattle.sessions.specs.declared.server_totals.RefusalCount.{RefusalCount}
use Rattle.sessions.specs.declared.server_totals.ServerTotals.{ServerTotals}
use Rattle.server_log.specs.LogLines.{ending_code}
use Rattle.server_log.specs.declared.log_line.LogEvent.{LogEvent}
use Rattle.server_log.specs.declared.log_line.LogEvent.TheVariants.{Ready, Stopping, JournalFailed, Opened, Closed, Started, Ended, Failed, Refused, Granted, Note, Lost}
use Rattle.server_log.specs.declared.server_counts.Counter.{Counter}
use Rattle.server_log.specs.declared.server_counts.Counter.TheVariants.{ConnectionsTaken, ConnectionsOver, JobsStarted, JobsOver, JobsFailed}
use Rattle.server_log.specs.declared.server_counts.JobCounts.{JobCounts}

-- the counter that an event raises by one, if it does
abbrev pub counter_of : LogEvent → Option Counter
counter_of Ready = None
counter_of Stopping = None
counter_of JournalFailed = None
counter_of (Opened connection by) = Some ConnectionsTaken
counter_of (Closed connection requests end ms) = Some ConnectionsOver
counter_of (Started job connection credit programs wait) = Some JobsStarted
counter_of (Ended job spent returned tasks buffer ms) = Some JobsOver
counter_of (Failed job code) = Some JobsFailed
counter_of (Refused connection code) = None
counter_of (Granted connection tenant amount balance) = None
counter_of (Note text) = None
counter_of Lost = None

-- a connection that ended by 0 wasn't given up
abbrev pub given_up : ℕ → Option ℕ
given_up code = if code == 0 then None else Some code

-- the number of the refusal that an event tells, if it tells one
abbrev pub refusal_code : LogEvent → Option ℕ
refusal_code Ready = None
refusal_code Stopping = None
refusal_code JournalFailed = None
refusal_code (Opened connection by) = None
refusal_code (Closed connection requests end ms) = given_up (ending_code end)
refusal_code (Started job connection credit programs wait) = None
refusal_code (Ended job spent returned tasks buffer ms) = None
refusal_code (Failed job code) = Some code
refusal_code (Refused connection code) = Some code
refusal_code (Granted connection tenant amount balance) = None
refusal_code (Note text) = None
refusal_code Lost = None

-- those that were taken and aren't over are open
abbrev pub connection_totals : ℕ → ℕ → ConnectionTotals
connection_totals taken over = record { opened = taken - over; taken = taken }

-- a job that was taken is open until it has a report or fails, and waits until a worker takes it or
-- it isn't started
abbrev pub job_totals : JobCounts → JobTotals
job_totals c = record {
  failed = c.failed;
  opened = c.taken - c.over - c.failed;
  over = c.over;
  taken = c.taken;
  waiting = c.taken - c.unstarted - c.started;
}

-- how many refusals had a number, if any had it
abbrev pub told_count : ℕ → ℕ → List RefusalCount
told_count code count = if count == 0 then [] else record { code = code; count = count } ∷ []

-- these counts in order, of which the first has this number
abbrev pub told_counts : ℕ → List ℕ → List RefusalCount
told_counts code [] = []
told_counts code (count ∷ counts) = told_count code count ++ told_counts (code + 1) counts

-- these are what some counters come to
abbrev pub AreConnections : ConnectionTotals → Type 0
AreConnections t = (taken over : ℕ) × (t ≡ connection_totals taken over)

abbrev pub AreJobs : JobTotals → Type 0
AreJobs t = (counts : JobCounts) × (t ≡ job_totals counts)

abbrev pub AreRefusals : List RefusalCount → Type 0
AreRefusals found = (counts : List ℕ) × (found ≡ told_counts 0 counts)

abbrev pub AreServerTotals : ServerTotals → Type 0
AreServerTotals t = AreConnections t.connections × AreJobs t.jobs × AreRefusals t.refusals.items
