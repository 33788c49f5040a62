-- What a note covers of what a connection was answered.
use Rattle.std.specs.Prelude.{◌≡◌, ℕ, List}
use mathlib.Core.List.{IsPrefix}
use Rattle.shared_desk.specs.ClientViews.{ClientView}
use Rattle.shared_desk.specs.Histories.{HistoryEntry, Query, Replays, part_of}

-- A legal history, which begins with all that the connection has seen and in which its part is what
-- it was answered, leads to a handler of which this is a note, for a place.
pub record IsNotedAt {D H M : Type 0} (answers : D × H → Query → List ℕ → D × H → Type 0)
    (begins : D × H → Type 0) (covers : ℕ → M → H → Type 0) (place : ℕ) (note : M)
    (v : ClientView) : Type 0 where
  pub history : List HistoryEntry
  pub state : D × H
  pub legal : Replays answers begins history state
  pub seen : IsPrefix v.seen history
  pub own : part_of v.number history ≡ v.part
  pub covered : covers place note state.1
