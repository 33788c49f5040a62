-- The sockets of tenants, of all others and of grants.
use Rattle.std.specs.Prelude.{◌≡◌, ℕ, Bool, true, false, not, List, length, slice_get, nat_lt, nat_eq, if◌then◌else◌, Option, Some}
use Rattle.shared_desk.specs.declared.door.Door.TheVariants.{Grants, Socket, Tenant}
use Rattle.shared_desk.specs.declared.passage.Passage.{Passage}

-- the socket at a place: the tenants' come first, then that for all, then that for grants
abbrev pub socket_at : {S : Type 0} → List S → S → Option S → ℕ → Option S
socket_at tenants all grants place =
    if nat_lt place (length tenants) then slice_get tenants place
    else (if nat_eq place (length tenants) then Some all else grants)

-- the socket at a place gave a connection
pub record GaveAt {S : Type 0} (gave : S → Type 0) (tenants : List S) (all : S) (grants : Option S)
    (place : ℕ) : Type 0 where
  pub socket : S
  pub is : socket_at tenants all grants place ≡ Some socket
  pub given : gave socket

-- The passage of what comes by the socket at a place. A tenant's connection may not grant. One of
-- the socket for all may where there is none for grants.
abbrev pub passage_at : ℕ → Bool → ℕ → Passage
passage_at tenants has_grants place =
    if nat_lt place tenants then record { door = Tenant place; may_grant = false }
    else (if nat_eq place tenants then record { door = Socket; may_grant = not has_grants }
    else record { door = Grants; may_grant = true })
