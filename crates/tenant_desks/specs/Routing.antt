-- The desk that a request goes to.
use Rattle.std.specs.Prelude.{ℕ, ◌+◌, ◌==◌, ◌||◌, List, [], ◌∷◌, length, nat_lt, if◌then◌else◌, Result, Ok, Err}
use Rattle.std.specs.Str.{bytes_eq}
use Rattle.sessions.specs.Grammar.{Asked, grant, account, submit, status, result}
use Rattle.shared_desk.specs.declared.door.Door.{Door}
use Rattle.shared_desk.specs.declared.door.Door.TheVariants.{Port, Socket, Grants, Tenant}
use Rattle.shared_desk.specs.declared.passage.Passage.{Passage}

-- The place of the desk of a name, where the first of these names has this place; 0, that of
-- everybody else, for a name that isn't among them.
abbrev pub place_from : ℕ → List (List ℕ) → List ℕ → ℕ
place_from place [] name = 0
place_from place (first ∷ names) name =
    if bytes_eq first name then place else place_from (place + 1) names name

abbrev pub tenant_place : List (List ℕ) → List ℕ → ℕ
tenant_place names name = place_from 1 names name

-- the place of the desk that a door belongs to
abbrev pub place_behind : Door → ℕ
place_behind Port = 0
place_behind Socket = 0
place_behind Grants = 0
place_behind (Tenant number) = number + 1

-- The desk of a door; a door of no tenant has none: 74.
abbrev pub desk_behind : List (List ℕ) → Door → Result ℕ ℕ
desk_behind names door =
    if nat_lt (length names) (place_behind door) then Err 74 else Ok (place_behind door)

-- An account is told by the door of its desk, and to a connection that may grant. A name that isn't
-- the door's own is refused as if nothing was granted to it: 74.
abbrev pub desk_of_account : List (List ℕ) → Passage → List ℕ → Result ℕ ℕ
desk_of_account names passage name =
    if (tenant_place names name == place_behind passage.door) || passage.may_grant
    then Ok (tenant_place names name) else Err 74

-- A job is taken by the door of its tenant's desk alone.
abbrev pub desk_of_submit : List (List ℕ) → Door → List ℕ → Result ℕ ℕ
desk_of_submit names door name =
    if tenant_place names name == place_behind door then Ok (tenant_place names name) else Err 74

-- The place of the desk that answers a request, or the number of its refusal. A grant goes to the
-- desk of its name. The number of a job is one of the desk behind the door.
abbrev pub desk_for : List (List ℕ) → Passage → Result Asked ℕ → Result ℕ ℕ
desk_for names passage (Err code) = Err code
desk_for names passage (Ok (grant name amount)) = Ok (tenant_place names name)
desk_for names passage (Ok (account name)) = desk_of_account names passage name
desk_for names passage (Ok (submit name job)) = desk_of_submit names passage.door name
desk_for names passage (Ok (status number)) = desk_behind names passage.door
desk_for names passage (Ok (result number)) = desk_behind names passage.door
