-- A tenant's part of a history, as the history of its desk alone.
use Rattle.std.specs.Prelude.{◌≡◌, ℕ, ◌==◌, Bool, false, List, [], ◌∷◌, ◌++◌, Option, Some, Result, Ok, Err}
use Rattle.credit_book.specs.declared.book.Report.{Report}
use Rattle.credit_book.specs.declared.board.Progress.{Progress}
use Rattle.job_core.specs.Admitted.{AdmittedJob}
use Rattle.accounts.specs.declared.keep_limits.KeepLimits.{KeepLimits}
use Rattle.accounts.specs.Ledgers.{Ledger, Finishes}
use Rattle.shared_desk.specs.Histories.{HistoryEntry, Query, Replays, put_if}
use Rattle.tenant_desks.specs.Placing.{placed}
use Rattle.tenant_desks.specs.PlacedRunners.{starts_placed, looks_placed}
use Rattle.tenant_desks.specs.Routing.{desk_for}
use Rattle.tenant_desks.specs.Tenancies.{Tenancy}
use Rattle.tenant_desks.specs.Answering.{AnswersAlone, KeptRunner, for_place, refusal_frame, named_answers}

-- whether this is the place
abbrev pub is_place : ℕ → Result ℕ ℕ → Bool
is_place place (Ok other) = other == place
is_place place (Err code) = false

-- whether the query goes to the desk at the place
abbrev pub goes_to : List (List ℕ) → ℕ → Query → Bool
goes_to names place query = is_place place (desk_for names query.passage query.asked)

-- the entries of a history that go to the desk at the place, in order
abbrev pub sent_to : List (List ℕ) → ℕ → List HistoryEntry → List HistoryEntry
sent_to names place [] = []
sent_to names place (e ∷ es) = put_if (goes_to names place e.query) e (sent_to names place es)

-- Something was asked and replied, and the start of its job came to this, where there was one; or
-- an open job ended.
pub data DeskEvent : Type 0 where
  was_asked : HistoryEntry → Result (Unit {0}) ℕ → DeskEvent
  has_ended : ℕ → Result Report ℕ → DeskEvent

-- the entries among these events
abbrev pub entries_in : List DeskEvent → List HistoryEntry
entries_in [] = []
entries_in (was_asked e started ∷ events) = e ∷ entries_in events
entries_in (has_ended number outcome ∷ events) = entries_in events

-- a start that comes to this
abbrev pub starts_to : {P : Type 0} → Result (Unit {0}) ℕ → (P → ℕ → AdmittedJob
    → Result (Unit {0}) ℕ → P → Type 0) → P → ℕ → AdmittedJob → Result (Unit {0}) ℕ → P → Type 0
starts_to outcome starts old number job result new =
    starts old number job result new × (result ≡ outcome)

-- What happened at a first desk leads to this one. The desk at the place is the only one here: it
-- answers each entry as if it were alone, and its open jobs end, each as the runner of all jobs
-- tells under the job's number there.
pub data HappensAlone {R : Type 0} (starts : R → ℕ → AdmittedJob → Result (Unit {0}) ℕ → R
    → Type 0) (looks : R → ℕ → Progress → R → Type 0)
    (takes : R → Option (ℕ × Result Report ℕ) → R → Type 0) (place : ℕ) (keep : KeepLimits)
    (first : Ledger) : List DeskEvent → Ledger → Type 0 where
  none_yet : HappensAlone starts looks takes place keep first [] first
  one_ended : (events : List DeskEvent) (before after : Ledger) (number : ℕ)
      (outcome : Result Report ℕ) (r s : R)
      → HappensAlone starts looks takes place keep first events before
      → takes r (Some (placed number place, outcome)) s → Finishes before number outcome after
      → HappensAlone starts looks takes place keep first (events ++ has_ended number outcome ∷ []) after
  one_asked : (events : List DeskEvent) (before after : Ledger) (e : HistoryEntry)
      (started : Result (Unit {0}) ℕ) (r s : R)
      → HappensAlone starts looks takes place keep first events before
      → AnswersAlone (starts_to started (starts_placed starts)) (looks_placed looks) keep
      (for_place place r) (for_place place s) e.query.asked e.reply before after
      → HappensAlone starts looks takes place keep first (events ++ was_asked e started ∷ []) after

-- these entries, with ends of jobs between them, lead from a first desk to this one, alone
pub record IsAloneHistory {R : Type 0} (starts : R → ℕ → AdmittedJob → Result (Unit {0}) ℕ → R
    → Type 0) (looks : R → ℕ → Progress → R → Type 0)
    (takes : R → Option (ℕ × Result Report ℕ) → R → Type 0) (place : ℕ) (keep : KeepLimits)
    (first : Ledger) (entries : List HistoryEntry) (desk : Ledger) : Type 0 where
  pub events : List DeskEvent
  pub same : entries_in events ≡ entries
  pub happens : HappensAlone starts looks takes place keep first events desk

-- A history that a server may have whose tenants of these names have desks of their own, each of
-- which keeps so many reports. It begins with these desks.
abbrev pub IsTenantHistory : {R : Type 0} → (R → ℕ → AdmittedJob → Result (Unit {0}) ℕ → R
    → Type 0) → (R → ℕ → Progress → R → Type 0) → (R → Option (ℕ × Result Report ℕ) → R → Type 0)
    → List (List ℕ) → List Ledger → KeepLimits → List HistoryEntry → Tenancy × KeptRunner R
    → Type 0
IsTenantHistory starts looks takes names firsts keep =
    Replays (named_answers starts looks takes)
    (λ s. (s.0 ≡ record { names = names; desks = firsts }) × (s.1.keep ≡ keep))

-- Where the entry's query goes nowhere, the reply tells why.
abbrev pub IsToldWhy : List (List ℕ) → HistoryEntry → Type 0
IsToldWhy names e =
    (code : ℕ) → desk_for names e.query.passage e.query.asked ≡ Err code
    → e.reply ≡ refusal_frame code

abbrev pub AreToldWhy : List (List ℕ) → List HistoryEntry → Type 0
AreToldWhy names [] = Unit {0}
AreToldWhy names (e ∷ es) = IsToldWhy names e × AreToldWhy names es
