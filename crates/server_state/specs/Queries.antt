-- What a connection asks of a server, and the desk that it goes to.
use Rattle.std.specs.Prelude.{ℕ, ◌+◌, ◌==◌, ◌||◌, Bool, List, [], ◌∷◌, length, nat_lt, if◌then◌else◌, Option, Result, Ok, Err}
use Rattle.std.specs.Str.{bytes_eq}
use Rattle.sessions.specs.Grammar.{Asked, grant, account, submit, status, result}
use Rattle.server_state.specs.declared.access.Access.{Access}

-- A request of the plain protocol, or the number of its refusal; a submit by a key, or by what is
-- no key; the jobs of the connection's desk, from a number on; or the counts of the server, which is
-- to stop or not.
pub data Query : Type 0 where
  plain : Result Asked ℕ → Query
  keyed : Option (List ℕ) → Result Asked ℕ → Query
  jobs : ℕ → Query
  counts : Bool → Query

-- the place of a name's desk, where the first of these has this place; 0 for any other name
abbrev pub place_from : ℕ → List (List ℕ) → List ℕ → ℕ
place_from place [] name = 0
place_from place (first ∷ names) name =
    if bytes_eq first name then place else place_from (place + 1) names name

abbrev pub tenant_place : List (List ℕ) → List ℕ → ℕ
tenant_place names name = place_from 1 names name

-- A query goes to the desk at a place, or to the server itself; or it is refused.
pub data Destination : Type 0 where
  desk_at : ℕ → Destination
  server_itself : Destination
  refused_by : ℕ → Destination

-- the connection's own desk; 74 where there is none
abbrev pub own_desk : List (List ℕ) → Access → Destination
own_desk names access =
    if nat_lt (length names) access.desk then refused_by 74 else desk_at access.desk

-- An account is returned by its own desk, and to a connection that may grant. Any other name is
-- refused as if nothing was granted to it: 74.
abbrev pub desk_of_account : List (List ℕ) → Access → List ℕ → Destination
desk_of_account names access name =
    if (tenant_place names name == access.desk) || access.may_grant
    then desk_at (tenant_place names name) else refused_by 74

-- A job is taken by its tenant's own desk alone.
abbrev pub desk_of_submit : List (List ℕ) → Access → List ℕ → Destination
desk_of_submit names access name =
    if tenant_place names name == access.desk then desk_at (tenant_place names name)
    else refused_by 74

-- A grant goes to the desk of its name. By a connection that may not grant it is no request: 73.
abbrev pub desk_of_grant : List (List ℕ) → Access → List ℕ → Destination
desk_of_grant names access name =
    if access.may_grant then desk_at (tenant_place names name) else refused_by 73

-- the destination of a request; the number of a job is one of the connection's own desk
abbrev pub request_goes : List (List ℕ) → Access → Result Asked ℕ → Destination
request_goes names access (Err code) = refused_by code
request_goes names access (Ok (grant name amount)) = desk_of_grant names access name
request_goes names access (Ok (account name)) = desk_of_account names access name
request_goes names access (Ok (submit name job)) = desk_of_submit names access name
request_goes names access (Ok (status number)) = own_desk names access
request_goes names access (Ok (result number)) = own_desk names access

abbrev pub goes : List (List ℕ) → Access → Query → Destination
goes names access (plain asked) = request_goes names access asked
goes names access (keyed key asked) = own_desk names access
goes names access (jobs from) = own_desk names access
goes names access (counts stops) = server_itself

-- A submit by a key, as the connection's own desk is asked it: another tenant's is refused by 74.
abbrev pub own_submit : List (List ℕ) → Access → Result Asked ℕ → Result Asked ℕ
own_submit names access (Err code) = Err code
own_submit names access (Ok (grant name amount)) = Err 73
own_submit names access (Ok (account name)) = Err 73
own_submit names access (Ok (submit name job)) =
    if tenant_place names name == access.desk then Ok (submit name job) else Err 74
own_submit names access (Ok (status number)) = Err 73
own_submit names access (Ok (result number)) = Err 73

-- a query, as the desk that it goes to is asked it
abbrev pub desk_query : List (List ℕ) → Access → Query → Query
desk_query names access (plain asked) = plain asked
desk_query names access (keyed key asked) = keyed key (own_submit names access asked)
desk_query names access (jobs from) = jobs from
desk_query names access (counts stops) = counts stops
