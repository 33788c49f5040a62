-- The history of a queue between threads, and each end's part of it.
use Rattle.std.specs.Prelude.{◌≡◌, ◌==◌, ◌%◌, ℕ, Bool, true, false, List, [], ◌∷◌, if◌then◌else◌}
use Rattle.job_pools.specs.declared.job_seats.StartedJob.{StartedJob}
use Rattle.job_pools.specs.declared.queues.Traffic.{Traffic}
use Rattle.job_pools.specs.declared.turn_seats.QueueStep.{QueueStep}
use Rattle.job_pools.specs.Turns.{TurnEvent, Put, Take, WaitingFlow, TurnsLeadTo}

-- a job's line, which is its flow
abbrev pub job_line : StartedJob → ℕ
job_line job = job.number % 1000

-- a step as an event: a put goes into the flow of the job's own line
abbrev pub turn_of : QueueStep → TurnEvent StartedJob
turn_of e = if e.is_put then Put (job_line e.job) e.job else Take e.flow e.job

abbrev pub turns_of : List QueueStep → List (TurnEvent StartedJob)
turns_of [] = []
turns_of (e ∷ es) = turn_of e ∷ turns_of es

-- the steps of one end, in order
abbrev pub steps_of : ℕ → List QueueStep → List QueueStep
steps_of n [] = []
steps_of n (e ∷ es) = if e.end == n then e ∷ steps_of n es else steps_of n es

-- the jobs that were put, and those that were taken
abbrev pub puts_of : List QueueStep → List StartedJob
puts_of [] = []
puts_of (e ∷ es) = if e.is_put then e.job ∷ puts_of es else puts_of es

abbrev pub takes_of : List QueueStep → List StartedJob
takes_of [] = []
takes_of (e ∷ es) = if e.is_put then takes_of es else e.job ∷ takes_of es

-- what an end put in, and what it took out
abbrev pub traffic_of : List QueueStep → Traffic
traffic_of part = record { put = puts_of part; taken = takes_of part }

-- what belongs to jobs, as these jobs
abbrev pub jobs_of : {X : Type 0} → (X → StartedJob) → List X → List StartedJob
jobs_of job [] = []
jobs_of job (x ∷ xs) = job x ∷ jobs_of job xs

abbrev pub flows_of_jobs : {X : Type 0} → (X → StartedJob) → List (WaitingFlow X) → List (WaitingFlow StartedJob)
flows_of_jobs job [] = []
flows_of_jobs job (f ∷ fs) =
    record { number = f.number; waiting = jobs_of job f.waiting } ∷ flows_of_jobs job fs

-- The history is legal, and leads to just what waits.
abbrev pub LeadsToWaiting : {X : Type 0} → (X → StartedJob) → List QueueStep → List (WaitingFlow X) → Type 0
LeadsToWaiting job history waits = TurnsLeadTo [] (turns_of history) (flows_of_jobs job waits)
