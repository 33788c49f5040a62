-- The endpoints of a listener, and the connections that come there.
use Rattle.std.specs.Prelude.{◌≡◌, ◌<◌, ◌⊎◌, ℕ, List, [], ◌∷◌, length, take, slice_get, Some}
use Rattle.std.specs.IoError.{error_kind}
use Rattle.std.specs.declared.io.Error.{Error}
use Rattle.std.specs.declared.io.ErrorKind.TheVariants as ErrorKind
use Rattle.server_state.specs.declared.access.Access.{Access}
use Rattle.endpoints.specs.Turns.{IsAskedAhead}
use Rattle.endpoints.specs.Modes.{mode_for}
use Rattle.endpoints.specs.declared.endpoint.Endpoint.{Endpoint}
use Rattle.endpoints.specs.declared.endpoint.Place.{Place}
use Rattle.endpoints.specs.declared.endpoint.SocketMode.{SocketMode}
use Rattle.endpoints.specs.declared.listen_fault.ListenFault.{ListenFault}

-- the endpoint at a place was refused by this, by the system or for want of memory
pub record IsRefusedEndpoint (refused : Place → Error → Type 0) (endpoints : List Endpoint) (place : ℕ)
    (error : Error) : Type 0 where
  pub endpoint : Endpoint
  pub is : slice_get endpoints place ≡ Some endpoint
  pub why : refused endpoint.place error ⊎ (error_kind error ≡ ErrorKind.OutOfMemory)

module _ {S : Type 0} (listens_at : S → Place → Type 0) (admits : S → SocketMode → Type 0) where
  -- The socket is that of an endpoint: it listens at its place, to those who may connect there.
  abbrev pub IsSocketOf : S → Endpoint → Type 0
  IsSocketOf socket endpoint =
      listens_at socket endpoint.place × admits socket (mode_for endpoint.access.forms)

  -- each socket is that of its endpoint, in order
  abbrev pub AreListening : List Endpoint → List S → Type 0
  AreListening [] [] = Unit {0}
  AreListening [] (s ∷ ss) = ⊥
  AreListening (e ∷ es) [] = ⊥
  AreListening (e ∷ es) (s ∷ ss) = IsSocketOf s e × AreListening es ss

  -- The endpoint at a place gave this connection: a socket that listens there did, and the access is
  -- this endpoint's.
  pub record CameBy {T : Type 0} (gave : S → T → Type 0) (endpoints : List Endpoint) (place : ℕ)
      (stream : T) (access : Access) : Type 0 where
    pub endpoint : Endpoint
    pub is : slice_get endpoints place ≡ Some endpoint
    pub socket : S
    pub listens : IsSocketOf socket endpoint
    pub given : gave socket stream
    pub same : access ≡ endpoint.access

  -- the endpoint at a place was asked for a connection, with this outcome
  abbrev pub WasAsked : (S → Type 0) → List Endpoint → ℕ → Type 0
  WasAsked outcome endpoints place =
      (endpoint : Endpoint) × ((socket : S) × (slice_get endpoints place ≡ Some endpoint)
      × IsSocketOf socket endpoint × outcome socket)

  -- each endpoint was asked, and had no connection
  abbrev pub AllHadNone : (S → Type 0) → List Endpoint → Type 0
  AllHadNone had_none endpoints =
      (place : ℕ) → place < length endpoints → WasAsked had_none endpoints place

  -- an endpoint gave a connection in its turn: all that are asked ahead of it had none
  abbrev pub GaveInTurn : (S → Type 0) → List Endpoint → ℕ → ℕ → Type 0
  GaveInTurn had_none endpoints last place =
      (ahead : ℕ) → ahead < length endpoints → IsAskedAhead last place ahead
      → WasAsked had_none endpoints ahead

  -- A listener can't be opened at these endpoints. The first that can't be listened at is named, and
  -- what listened at those ahead of it was let go.
  pub record CannotOpen (refused : Place → Error → Type 0) (closed : List S → Type 0)
      (endpoints : List Endpoint) (fault : ListenFault) : Type 0 where
    pub place : ℕ
    pub endpoint : Endpoint
    pub is : slice_get endpoints place ≡ Some endpoint
    pub why : refused endpoint.place fault.error
        ⊎ (error_kind fault.error ≡ ErrorKind.OutOfMemory)
    pub named : fault.place ≡ endpoint.place
    pub sockets : List S
    pub ahead : AreListening (take place endpoints) sockets
    pub gone : closed sockets
