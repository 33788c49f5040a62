use Rattle.std.proofs.Common.{◌≡◌, ◌≤◌, ◌-◌, drop, length}
use Rattle.sessions.specs.JobKeys.{job_among}
use Rattle.sessions.proofs.keyed_jobs.job_among.Given as goal

-- the key isn't among the first jobs
abbrev pub invariant-places : goal.invariant-places
invariant-places l = (l.place ≤ length l.fn.marks)
    × (job_among (drop l.place l.fn.jobs) l.fn.key ≡ job_among l.fn.jobs l.fn.key)

abbrev pub decreases-places : goal.decreases-places
decreases-places l = length l.fn.marks - l.place
