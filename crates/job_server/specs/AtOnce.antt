-- Many connections that are served at once.
use Rattle.std.specs.Prelude.{◌≡◌, ◌≢◌, ◌≤◌, ◌<◌, ◌⊎◌, ℕ, Bool, false, List, [], All, length, Result, Ok, Err, OnOk, IfErr}
use Rattle.sessions.specs.Grammar.{Asked}
use Rattle.streams.specs.declared.fault.StreamFault.{StreamFault}
use Rattle.streams.specs.declared.fault.StreamFault.TheVariants as stream
use Rattle.accounts.specs.Ledgers.{Ledger}
use Rattle.std.specs.BTreeMap.{BTreeMap}
use Rattle.credit_book.specs.Boards.{Sight}
use Rattle.shared_desk.specs.declared.closed.ClosedConnection.{ClosedConnection}
use Rattle.shared_desk.specs.Histories.{HistoryEntry, Query, Replays, by_any_passage, part_of}
use Rattle.shared_desk.specs.ServerAsked.{answers_counting}
use Rattle.shared_desk.specs.Closed.{AreClosed, IsServedWhole, first_fault}
use Rattle.job_server.specs.declared.fault.ServeFault.{ServeFault}
use Rattle.job_server.specs.declared.fault.ServeFault.TheVariants.{Socket, Connection, Threads, Restart}
use Rattle.job_pools.specs.declared.job_seats.StartedJob.{StartedJob}
use Rattle.job_pools.specs.Holds.{StartsBy, TellsBy, TakesBy}
use Rattle.job_pools.specs.Started.{pooled_at, pooled_count}
use Rattle.job_server.specs.declared.bounds.Bounds.{Bounds}
use Rattle.job_pools.specs.Bounded.{looks_within, starts_within, takes_within}
use Rattle.job_server.specs.Kept.{answers_keeping}
use Rattle.job_pools.specs.declared.limited_runner.LimitedRunner.{LimitedRunner}
use Rattle.job_server.specs.declared.keeping_handler.KeepingHandler.{KeepingHandler}

-- Why a server ends with a fault: no more connections could be taken, so that not all were opened; one
-- was given up by it; there was no memory, so that not all were opened, or not all of those are over,
-- or none was opened; or there was no thread, so that none was opened.
abbrev pub EndsBy : ℕ → ℕ → ℕ → Result (Unit {0}) StreamFault → ServeFault → Type 0
EndsBy opened sessions over given_up Socket = opened < sessions
EndsBy opened sessions over given_up (Connection fault) =
    (given_up ≡ Err fault)
    ⊎ ((fault ≡ stream.NoMemory) × ((opened ≢ sessions) ⊎ (over ≢ opened) ⊎ (opened ≡ 0)))
EndsBy opened sessions over given_up Threads = opened ≡ 0
EndsBy opened sessions over given_up (Restart code) = ⊥

-- A server that has not begun: there was no memory, or no thread, or an open job could not be started
-- again.
abbrev pub HasNotBegun : Result (Unit {0}) ServeFault → Type 0
HasNotBegun outcome = (outcome ≡ Err (Connection stream.NoMemory)) ⊎ (outcome ≡ Err Threads)
    ⊎ ((code : ℕ) × (outcome ≡ Err (Restart code)))

-- So many connections were to be served. One legal history has every answer in order, and leads
-- to the end. Those that were opened have numbers from 0 on; no other has a part of the history.
-- Of each that is over, what came asks its own part, and what was written are the replies of that
-- part, in order. Where all went well, all that were opened are over; and all were opened, unless a
-- host may stop the server.
pub record IsServingFrom {S : Type 0} (answers : S → Query → List ℕ → S → Type 0)
    (begins : S → Type 0) (end : S) (sessions : ℕ) (may_stop : Bool)
    (outcome : Result (Unit {0}) ServeFault) : Type 0 where
  pub history : List HistoryEntry
  pub opened : ℕ
  pub closed : List ClosedConnection
  pub legal : Replays answers begins history end
  pub others : (n : ℕ) → opened ≤ n → part_of n history ≡ []
  pub parts : AreClosed opened history closed
  pub served : All IsServedWhole closed
  pub well : OnOk outcome ((length closed ≡ opened) × (first_fault closed ≡ Ok tt)
      × (opened ≤ sessions) × (may_stop ≡ false → opened ≡ sessions))
  pub fault : IfErr outcome (EndsBy opened sessions (length closed) (first_fault closed))

-- the jobs that a pool was given, and the boards that it watches
abbrev pub Pool : Type 0
Pool = List StartedJob × BTreeMap ℕ Sight

-- a desk, and a pool within its host's bounds
abbrev pub Hosted : Type 0
Hosted = Ledger × KeepingHandler (LimitedRunner Pool)

abbrev pub hosted_answers : Hosted → Result Asked ℕ → List ℕ → Hosted → Type 0
hosted_answers =
    answers_keeping (starts_within pooled_count (StartsBy pooled_at pooled_count))
    (looks_within (TellsBy pooled_at pooled_count)) (takes_within (TakesBy pooled_at pooled_count))

-- a desk that nobody was granted anything on, and that has no job
abbrev pub new_desk : Ledger
new_desk = record { grants = []; past = []; jobs = [] }

-- a new desk, and a pool with no job, within these bounds
abbrev pub new_host : Bounds → Pool → Hosted
new_host bounds pool = (
  new_desk,
  record { runner = record { runner = pool; limit = bounds.open_jobs }; keep = bounds.keep },
)

-- The same, first on a new desk and with no job. Jobs run on a pool that lasts, within the bounds. One
-- door hears what the server counts.
pub record IsServing (bounds : Bounds) (sessions : ℕ) (may_stop : Bool)
    (outcome : Result (Unit {0}) ServeFault) : Type 0 where
  pub first : Pool
  pub none : (first.0 ≡ []) × (first.1.entries ≡ [])
  pub end : Hosted
  pub serving : IsServingFrom (answers_counting (by_any_passage hosted_answers))
      (λ s. s ≡ new_host bounds first) end sessions may_stop outcome
