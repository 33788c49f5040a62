-- Sockets that are asked in turn.
use Rattle.std.specs.Prelude.{◌≡◌, ◌<◌, ◌≤◌, ◌⊎◌, ℕ, List, slice_get, Some}

-- A place is asked ahead of another, where the one at `last` gave the last connection: it stands between
-- them; or the other isn't behind `last`, and it stands behind `last`, or ahead of the other.
abbrev pub IsAskedAhead : ℕ → ℕ → ℕ → Type 0
IsAskedAhead last other place =
    ((last < place) × ((place < other) ⊎ (other ≤ last))) ⊎ ((other ≤ last) × (place < other))

module _ {S : Type 0} where
  -- the socket at a place gave this connection
  pub record SocketGave {T : Type 0} (gave : S → T → Type 0) (sockets : List S) (place : ℕ) (stream : T)
      : Type 0 where
    pub socket : S
    pub is : slice_get sockets place ≡ Some socket
    pub given : gave socket stream

  -- each socket between two places was asked, and had no connection
  abbrev pub HadNoneBetween : (S → Type 0) → List S → ℕ → ℕ → Type 0
  HadNoneBetween had_none sockets first end =
      (place : ℕ) (socket : S) → first ≤ place → place < end
      → slice_get sockets place ≡ Some socket → had_none socket

  -- all sockets that are asked ahead of this one had none
  abbrev pub IsFairTurn : (S → Type 0) → List S → ℕ → ℕ → Type 0
  IsFairTurn had_none sockets last place =
      (ahead : ℕ) (socket : S) → IsAskedAhead last place ahead
      → slice_get sockets ahead ≡ Some socket → had_none socket

  -- one of the sockets was asked, and failed
  abbrev pub FailedOne : (S → Type 0) → List S → Type 0
  FailedOne failed sockets =
      (place : ℕ) × ((socket : S) × (slice_get sockets place ≡ Some socket) × failed socket)
