-- Requests that leave their tenant's name out, at the door of a tenant.
use Rattle.std.specs.Prelude.{◌≡◌, ℕ, List, [], ◌∷◌, slice_get, unwrap_or, None, Result, Ok, Err}
use Rattle.sessions.specs.Grammar.{Asked, grant, account, submit, status, result}
use Rattle.shared_desk.specs.declared.door.Door.{Door}
use Rattle.shared_desk.specs.declared.door.Door.TheVariants.{Port, Socket, Grants, Tenant}
use Rattle.shared_desk.specs.Histories.{HistoryEntry, Query}

-- the name of the tenant whose door this is; at any other door the empty name
abbrev pub name_behind : List (List ℕ) → Door → List ℕ
name_behind names Port = []
name_behind names Socket = []
name_behind names Grants = []
name_behind names (Tenant number) = unwrap_or (slice_get names number) []

-- a name, with the door's own in place of the empty one
abbrev pub own_name : List ℕ → List ℕ → List ℕ
own_name own [] = own
own_name own (byte ∷ name) = byte ∷ name

-- what is asked, by the door's own name where it is the empty one
abbrev pub own_named : List ℕ → Asked → Asked
own_named own (grant name amount) = grant (own_name own name) amount
own_named own (account name) = account (own_name own name)
own_named own (submit name job) = submit (own_name own name) job
own_named own (status number) = status number
own_named own (result number) = result number

-- it is asked by the empty name
abbrev pub IsUnnamed : Asked → Type 0
IsUnnamed (grant name amount) = name ≡ []
IsUnnamed (account name) = name ≡ []
IsUnnamed (submit name job) = name ≡ []
IsUnnamed (status number) = ⊥
IsUnnamed (result number) = ⊥

-- What the desks are asked, of what is asked by a door: the same, by the door's own name where it is
-- the empty one. Where there is no memory for that name, nothing is asked: 99.
pub data IsOwnNamed (names : List (List ℕ)) (door : Door) : Result Asked ℕ → Result Asked ℕ
    → Type 0 where
  no_request : (code : ℕ) → IsOwnNamed names door (Err code) (Err code)
  named : (asked : Asked)
      → IsOwnNamed names door (Ok asked) (Ok (own_named (name_behind names door) asked))
  no_memory : (asked : Asked) → IsUnnamed asked → IsOwnNamed names door (Ok asked) (Err 99)

-- the answers of a handler that is asked by own names
abbrev pub answers_own_named : {S : Type 0} → (S → List (List ℕ))
    → (S → Query → List ℕ → S → Type 0) → S → Query → List ℕ → S → Type 0
answers_own_named names answers s query reply t =
    (asked : Result Asked ℕ) × IsOwnNamed (names s) query.passage.door query.asked asked
    × answers s (record { passage = query.passage; asked = asked; beyond = None }) reply t

-- an entry, and the same of what the desks were asked
pub record IsNamedEntry (names : List (List ℕ)) (e f : HistoryEntry) : Type 0 where
  pub connection : f.connection ≡ e.connection
  pub passage : f.query.passage ≡ e.query.passage
  pub asked : IsOwnNamed names e.query.passage.door e.query.asked f.query.asked
  pub reply : f.reply ≡ e.reply

-- the entries of a history, by what the desks were asked
abbrev pub AreAskedByName : List (List ℕ) → List HistoryEntry → List HistoryEntry → Type 0
AreAskedByName names [] [] = Unit {0}
AreAskedByName names [] (f ∷ asked) = ⊥
AreAskedByName names (e ∷ history) [] = ⊥
AreAskedByName names (e ∷ history) (f ∷ asked) =
    IsNamedEntry names e f × AreAskedByName names history asked
