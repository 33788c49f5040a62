-- A server whose desks' changes journals keep.
use Rattle.std.specs.Prelude.{◌≡◌, ◌⊎◌, ◌+◌, ℕ, Bool, true, false, List, [], ◌∷◌, All, length, Result}
use Rattle.job_core.specs.Admitted.{AdmittedJob}
use Rattle.accounts.specs.declared.keep_limits.KeepLimits.{KeepLimits}
use Rattle.accounts.specs.Ledgers.{Ledger}
use Rattle.desk_journal.specs.DeskSteps.{DeskState}
use Rattle.keyed_desk.specs.KeyedSteps.{KeyedState}
use Rattle.desk_recorder.specs.Recording.{IsRecorded}
use Rattle.desk_recorder.specs.RecordedAnswers.{answers_recorded}
use Rattle.desk_recorder.specs.Restarts.{StartsEach}
use Rattle.desk_recorder.specs.declared.recorder.ChangeRecorder.{ChangeRecorder}
use Rattle.desk_recorder.specs.declared.recording_handler.RecordingHandler.{RecordingHandler}
use Rattle.shared_journal.specs.declared.journal_queue.JournalQueue.{JournalQueue}
use Rattle.shared_journal.specs.declared.shared_journal.SharedJournal.{SharedJournal}
use Rattle.shared_desk.specs.Histories.{by_any_passage}
use Rattle.shared_desk.specs.ServerAsked.{answers_counting}
use Rattle.shared_desk.specs.declared.passage.Passage.{Passage}
use Rattle.sessions.specs.Grammar.{Asked}
use Rattle.job_pools.specs.Holds.{StartsBy, TellsBy, TakesBy}
use Rattle.job_pools.specs.Started.{pooled_at, pooled_count}
use Rattle.job_pools.specs.Bounded.{looks_within, starts_within, takes_within}
use Rattle.job_pools.specs.declared.limited_runner.LimitedRunner.{LimitedRunner}
use Rattle.job_server.specs.declared.bounds.Bounds.{Bounds}
use Rattle.job_server.specs.declared.fault.ServeFault.{ServeFault}
use Rattle.job_server.specs.declared.tenant_door.TenantDoor.{TenantDoor}
use Rattle.job_server.specs.AtOnce.{IsServingFrom, Pool, new_desk}
use Rattle.job_server.specs.Listening.{AreOf, CameBy}
use Rattle.job_server.specs.TenantServing.{GrantsByNoTenant, IsServingAt, IsServingBy}
use Rattle.job_server.specs.TenantRecorded.{IsServingTenantsRecorded, desks_of}

-- no desk has a journal, or each has one: that of everybody else, and that of each of these tenants
abbrev pub HasJournalEach : {J D : Type 0} → List J → List D → Type 0
HasJournalEach journals doors = (journals ≡ []) ⊎ (length journals ≡ length doors + 1)

-- the records that a journal's queue has taken, and whether it was told that one is missing
abbrev pub queue_taken : {R : Type 0} → JournalQueue R → List ℕ
queue_taken queue = queue.taken.bytes

abbrev pub queue_told : {R : Type 0} → JournalQueue R → Type 0
queue_told queue = queue.was_told ≡ true

-- the journal to which a queue's records go
abbrev pub queue_journal : {R : Type 0} → JournalQueue R → SharedJournal
queue_journal queue = queue.journal.now

-- the one desk that was recovered, with its open jobs; where nothing was, a new desk
abbrev pub recovered_state : List DeskState → DeskState
recovered_state [] = record { desk = new_desk; held = [] }
recovered_state (state ∷ states) = state

-- A server begins here: at a recovered desk, each of whose open jobs was started again, once and in
-- order. Those that were refused are over. The records of that are the first that its queue takes.
pub record IsRestarted {R Q : Type 0}
    (starts : R → ℕ → AdmittedJob → Result (Unit {0}) ℕ → R → Type 0) (taken : Q → List ℕ)
    (failed : Q → Type 0) (state : DeskState) (runner : R) (keep : KeepLimits)
    (begun : Ledger × RecordingHandler R Q) : Type 0 where
  pub fresh : ChangeRecorder Q
  pub none : (taken fresh.queue ≡ []) × (fresh.is_stopped ≡ false)
  pub started : StartsEach starts state.desk runner state.held begun.0 begun.1.runner
  pub recorded : IsRecorded taken failed fresh begun.1.recorder state.desk begun.0 []
  pub kept : begun.1.keep ≡ keep

-- a desk, and a pool within its host's bounds, with the queue of the desk's changes
abbrev pub RecordedHosted : Type 0 → Type 0
RecordedHosted Q = Ledger × RecordingHandler (LimitedRunner Pool) Q

abbrev pub recorded_answers : {Q : Type 0} → (Q → List ℕ) → (Q → Type 0) → RecordedHosted Q
    → Result Asked ℕ → List ℕ → RecordedHosted Q → Type 0
recorded_answers taken failed =
    answers_recorded (starts_within pooled_count (StartsBy pooled_at pooled_count))
    (looks_within (TellsBy pooled_at pooled_count)) (takes_within (TakesBy pooled_at pooled_count))
    taken failed

-- So many connections are served, first at a recovered desk. Jobs run on a pool that lasts, within
-- the bounds. Each change of the desk is recorded.
pub record IsServingRecorded {Q : Type 0} (taken : Q → List ℕ) (failed : Q → Type 0)
    (state : DeskState) (bounds : Bounds) (sessions : ℕ) (may_stop : Bool)
    (outcome : Result (Unit {0}) ServeFault) : Type 0 where
  pub first : Pool
  pub none : (first.0 ≡ []) × (first.1.entries ≡ [])
  pub begun : RecordedHosted Q
  pub restarted :
      IsRestarted (starts_within pooled_count (StartsBy pooled_at pooled_count)) taken failed state
      (record { runner = first; limit = bounds.open_jobs }) bounds.keep begun
  pub end : RecordedHosted Q
  pub serving : IsServingFrom (answers_counting (by_any_passage (recorded_answers taken failed)))
      (λ s. s ≡ begun) end sessions may_stop outcome

-- A server with journals, or without one: of one desk, or of one for each of these doors' tenants.
abbrev pub IsServingWith : {Q J : Type 0} → (Q → List ℕ) → (Q → Type 0) → (Q → J) → List J
    → List KeyedState → List TenantDoor → Bounds → ℕ → Bool → Result (Unit {0}) ServeFault → Type 0
IsServingWith taken failed journal_of [] states doors bounds sessions may_stop outcome =
    IsServingBy doors bounds sessions may_stop outcome
IsServingWith taken failed journal_of (j ∷ js) states [] bounds sessions may_stop outcome =
    IsServingRecorded taken failed (recovered_state (desks_of states)) bounds sessions may_stop
    outcome
IsServingWith taken failed journal_of (j ∷ js) states (d ∷ ds) bounds sessions may_stop outcome =
    (s : IsServingTenantsRecorded taken failed journal_of (j ∷ js) states (d ∷ ds) bounds sessions
    may_stop outcome)
    × All (λ c. GrantsByNoTenant c.passage) s.serving.closed

-- The same, and the connections are this listener's, each by a passage that it gave.
abbrev pub IsServingWithAt : {L Q J : Type 0} → (L → L → Type 0) → (L → L → Type 0)
    → (L → Passage) → L → (Q → List ℕ) → (Q → Type 0) → (Q → J) → List J → List KeyedState
    → List TenantDoor → Bounds → ℕ → Bool → Result (Unit {0}) ServeFault → Type 0
IsServingWithAt opens fails passage_of listener taken failed journal_of [] states doors bounds sessions may_stop outcome =
    IsServingAt opens fails passage_of listener doors bounds sessions may_stop outcome
IsServingWithAt opens fails passage_of listener taken failed journal_of (j ∷ js) states [] bounds sessions may_stop outcome =
    (s : IsServingRecorded taken failed (recovered_state (desks_of states)) bounds sessions may_stop
    outcome)
    × AreOf opens fails listener s.serving.opened
    × All (λ c. CameBy opens passage_of c.passage) s.serving.closed
IsServingWithAt opens fails passage_of listener taken failed journal_of (j ∷ js) states (d ∷ ds) bounds sessions may_stop outcome =
    (s : IsServingTenantsRecorded taken failed journal_of (j ∷ js) states (d ∷ ds) bounds sessions
    may_stop outcome)
    × AreOf opens fails listener s.serving.opened
    × All (λ c. CameBy opens passage_of c.passage) s.serving.closed
