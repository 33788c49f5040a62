-- Names that a tenant's own connection may leave out.
use Rattle.std.specs.Prelude.{◌≡◌, ℕ, ◌-◌, List, [], ◌∷◌, nat_lt, slice_get, if◌then◌else◌, unwrap_or, Result, Ok, Err}
use Rattle.sessions.specs.Grammar.{Asked, grant, account, submit, status, result}
use Rattle.server_state.specs.declared.access.Access.{Access}

-- the name of the tenant whose desk is the connection's own; the empty name at the first desk
abbrev pub own_name_of : List (List ℕ) → Access → List ℕ
own_name_of names access =
    if nat_lt 0 access.desk then unwrap_or (slice_get names (access.desk - 1)) [] else []

-- a name, with the connection's own in place of the empty one
abbrev pub own_name : List ℕ → List ℕ → List ℕ
own_name own [] = own
own_name own (byte ∷ name) = byte ∷ name

-- a request, by the connection's own name where it has the empty one
abbrev pub own_named : List ℕ → Asked → Asked
own_named own (grant name amount) = grant (own_name own name) amount
own_named own (account name) = account (own_name own name)
own_named own (submit name job) = submit (own_name own name) job
own_named own (status number) = status number
own_named own (result number) = result number

-- it is asked by the empty name
abbrev pub IsUnnamed : Asked → Type 0
IsUnnamed (grant name amount) = name ≡ []
IsUnnamed (account name) = name ≡ []
IsUnnamed (submit name job) = name ≡ []
IsUnnamed (status number) = ⊥
IsUnnamed (result number) = ⊥

-- What the desks are asked, of a request by a connection: the same, by the connection's own name
-- where it has the empty one. Where there is no memory for that name, nothing is asked: 99.
pub data IsOwnNamed (names : List (List ℕ)) (access : Access) : Result Asked ℕ → Result Asked ℕ
    → Type 0 where
  no_request : (code : ℕ) → IsOwnNamed names access (Err code) (Err code)
  named : (asked : Asked)
      → IsOwnNamed names access (Ok asked) (Ok (own_named (own_name_of names access) asked))
  no_memory : (asked : Asked) → IsUnnamed asked → IsOwnNamed names access (Ok asked) (Err 99)
