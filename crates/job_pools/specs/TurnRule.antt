-- The rule of the table of a queue's history, and what its steps do.
use Rattle.std.specs.Prelude.{◌≡◌, ◌+◌, ◌<◌, ◌≤◌, ℕ, true, false, List, [], ◌∷◌, ◌++◌}
use mathlib.Core.Option.{some}
use lib.ListN.{get_elem?}
use Rattle.atomic_table.specs.Table.{Me, Step}
use Rattle.job_pools.specs.declared.turn_seats.QueueStep.{QueueStep}
use Rattle.job_pools.specs.declared.turn_seats.TurnView.{TurnView}
use Rattle.job_pools.specs.TurnHistories.{steps_of}

-- ---- who sits where

-- a seat that knows nothing
abbrev pub no_turn_view : TurnView
no_turn_view = record {
  is_end = false;
  number = 0;
  part = [];
  is_opener = false;
  opened = 0;
  is_recorder = false;
  history = [];
}

-- the recorder, who knows the whole history
abbrev pub turn_recorder : List QueueStep → TurnView
turn_recorder history = record no_turn_view { is_recorder = true; history = history }

-- the opener, who knows how many ends were opened
abbrev pub end_opener : ℕ → TurnView
end_opener opened = record no_turn_view { is_opener = true; opened = opened }

-- the first seat, which is both
abbrev pub turn_founder : TurnView
turn_founder = record no_turn_view { is_opener = true; is_recorder = true }

-- an end, which knows its part
abbrev pub end_view : ℕ → List QueueStep → TurnView
end_view n part = record no_turn_view { is_end = true; number = n; part = part }

-- a seat that becomes the recorder, or is it no more
abbrev pub with_history : TurnView → TurnView → TurnView
with_history v w = record v { is_recorder = w.is_recorder; history = w.history }

abbrev pub without_history : TurnView → TurnView
without_history v = record v { is_recorder = false; history = [] }

abbrev pub only_history : TurnView → TurnView
only_history v = record no_turn_view { is_recorder = v.is_recorder; history = v.history }

-- the opener has opened one end more, which has done nothing
abbrev pub one_end_more : TurnView → TurnView
one_end_more v = record v { opened = v.opened + 1 }

abbrev pub new_end_view : TurnView → TurnView
new_end_view v = end_view v.opened []

-- ---- the rule

-- what the view at a seat says is so
pub record FitsTurns (recorder_at opener_at : ℕ) (seat_of : ℕ → ℕ) (opened : ℕ)
    (history : List QueueStep) (seat : ℕ) (v : TurnView) : Type 0 where
  pub recording : v.is_recorder ≡ true → (seat ≡ recorder_at) × (v.history ≡ history)
  pub opening : v.is_opener ≡ true → (seat ≡ opener_at) × (v.opened ≡ opened)
  pub serving : v.is_end ≡ true → (seat ≡ seat_of v.number) × (v.number < opened)
      × (steps_of v.number history ≡ v.part)

-- There is one history. One seat knows it whole, and one knows how many ends were opened. Each end
-- has one seat, which knows its part of the history. An end that was not opened has no part.
pub record IsQueueHistory (views : List TurnView) : Type 0 where
  pub recorder_at : ℕ
  pub opener_at : ℕ
  pub seat_of : ℕ → ℕ
  pub opened : ℕ
  pub history : List QueueStep
  pub each : (seat : ℕ) (v : TurnView) → get_elem? views seat ≡ some v
      → FitsTurns recorder_at opener_at seat_of opened history seat v
  pub others : (n : ℕ) → opened ≤ n → steps_of n history ≡ []

-- ---- the steps

-- an end, as the recorder, adds a step of its own
abbrev pub AddsStep : {S : Type 0} → (QueueStep → Type 0) → Step S → Me S TurnView → ℕ
    → Me S TurnView → Type 0
AddsStep allows s v found w =
    (e : QueueStep) × allows e × (e.end ≡ v.0.number)
    × (w ≡ (
      with_history (end_view v.0.number (v.0.part ++ e ∷ []))
          (turn_recorder (v.0.history ++ e ∷ [])),
      v.1,
    ))
