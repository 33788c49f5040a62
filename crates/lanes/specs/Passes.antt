-- What a pass of a lane or of a thief shows.
use Rattle.std.specs.Prelude.{◌≡◌, ◌⊎◌, true, ℕ, ◌<◌}
use Rattle.crossbeam_deque.specs.Handles.{view, taken, worker_view, worker_deque, worker_index, IsPassOf, stealer_deque, Pass as Seat}
use Rattle.lanes.specs.declared.moves.Moves.{Moves}
use Rattle.lanes.specs.declared.moves.TicketData.{TicketData}
use Rattle.lanes.specs.Interleaving.{new_thief, ThiefFoundNone}
use Rattle.lanes.specs.declared.deque.Lane.{Lane}
use Rattle.lanes.specs.declared.deque.Stolen.{Stolen}
use Rattle.lanes.specs.declared.deque.Stolen.TheVariants.{Got, Empty, Retry}
use Rattle.lanes.specs.declared.deque.Thief.{Thief}
use Rattle.lanes.specs.declared.deque.Pass.{Pass}
use Rattle.lanes.specs.declared.deque.Owning.{Owning}
use Rattle.lanes.specs.declared.deque.Stealing.{Stealing}

module _ {T V A : Type 0} where
  -- what one knows that has a bare seat
  abbrev pub known_moves : Seat T V A → V
  known_moves seat = view seat

  -- how many tickets one with a bare seat knows to have left the lane
  abbrev pub known_gone : Seat T V A → ℕ
  known_gone seat = taken seat

module _ {X : Type 0} where
  -- what the owner has moved
  abbrev pub moves_of : Pass (Owning X) → Moves
  moves_of p = worker_view p.knows.seen.value

  -- what the thief has moved
  abbrev pub moves : Pass (Stealing X) → Moves
  moves p = view p.knows.seat

  -- how many tickets the thief knows to have left the lane
  abbrev pub gone : Pass (Stealing X) → ℕ
  gone p = taken p.knows.seat

  -- the place of the lane's next push in the order of pushing
  abbrev pub next_place : Lane X → ℕ
  next_place lane = worker_index lane.ready

  -- the pass was made with this lane
  abbrev pub IsOwner : Lane X → Pass (Owning X) → Type 0
  IsOwner lane p = p.knows.seen.value ≡ lane.ready

  -- the pass was made with this thief, or with another of the same lane
  abbrev pub IsGuest : Thief X → Pass (Stealing X) → Type 0
  IsGuest thief p = IsPassOf (stealer_deque thief.reach) p.knows.seat × ((moves p).steals ≡ true)

  -- the pass was made with a thief of this lane
  abbrev pub IsGuestOf : Lane X → Pass (Stealing X) → Type 0
  IsGuestOf lane p = IsPassOf (worker_deque lane.ready) p.knows.seat × ((moves p).steals ≡ true)

  -- the thief steals from this lane
  abbrev pub IsThiefOf : Lane X → Thief X → Type 0
  IsThiefOf lane thief = stealer_deque thief.reach ≡ worker_deque lane.ready

  -- the lane's name, which its passes know
  abbrev pub name_of : Lane X → ℕ
  name_of lane = (worker_view lane.ready).lane

  -- a thief of the lane and its pass, which has moved nothing
  abbrev pub IsNewThief : Lane X → Thief X → Pass (Stealing X) → Type 0
  IsNewThief lane thief p =
      IsThiefOf lane thief × IsGuest thief p × (moves p ≡ new_thief (name_of lane))

  -- the same lane, after a call
  abbrev pub IsSameLane : Lane X → Lane X → Type 0
  IsSameLane old new = worker_deque new.ready ≡ worker_deque old.ready

  -- a thief of the same lane, after a call
  abbrev pub IsSameThief : Thief X → Thief X → Type 0
  IsSameThief old new = stealer_deque new.reach ≡ stealer_deque old.reach

  -- what a thief was given
  abbrev pub MatchStolen : Stolen X → Type 0 → Type 0 → (X → Type 0) → Type 0
  MatchStolen (Got ticket) empty retry got = got ticket
  MatchStolen Empty empty retry got = empty
  MatchStolen Retry empty retry got = retry

  module _ (task : X → TicketData) where
    -- Another caller came first: a ticket left the lane since the thief last looked. Or the lane
    -- had none.
    abbrev pub CameTooLate : Moves → ℕ → ℕ → Type 0
    CameTooLate m gone_before gone_after = (gone_before < gone_after) ⊎ ThiefFoundNone task m
