-- Histories of doors that hear forms of their own, by what their handler was asked.
use Rattle.std.specs.Prelude.{◌≡◌, ℕ, List, [], ◌∷◌, ◌++◌, Option, Some, None}
use Rattle.shared_desk.specs.Histories.{HistoryEntry, Query}
use Rattle.tenant_desks.specs.AtDoors.{BehindDoors, jobs_behind, keys_behind, keys_left, new_key, no_request_by, plainly, told_by_door, without_keys}
use Rattle.tenant_desks.specs.Tenancies.{Tenancy}

-- An entry, and what the handler was asked. Where the door told this by itself, that is no request.
-- Else it is the plain request, with the same reply.
abbrev pub IsAskedAs : Option (List ℕ) → HistoryEntry → HistoryEntry → Type 0
IsAskedAs None e f =
    f ≡ record { connection = e.connection; query = plainly e.query; reply = e.reply }
IsAskedAs (Some frame) e f =
    (f.connection ≡ e.connection) × (f.query ≡ no_request_by e.query.passage) × (e.reply ≡ frame)

module _ {H : Type 0} (answers : Tenancy × H → Query → List ℕ → Tenancy × H → Type 0)
    (begins : Tenancy × BehindDoors H → Type 0) where
  -- The entries of a history, and what the handler was asked in it, one after the other, which leads
  -- to this state.
  pub data AreAskedPlainly : List HistoryEntry → List HistoryEntry → Tenancy × BehindDoors H
      → Type 0 where
    none_yet : (s : Tenancy × BehindDoors H) → begins s → AreAskedPlainly [] [] s
    one_more : (history plain : List HistoryEntry) (s : Tenancy × BehindDoors H)
        (e f : HistoryEntry) (t : Tenancy × BehindDoors H)
        → AreAskedPlainly history plain s
        → answers (without_keys s) f.query f.reply (without_keys t)
        → IsAskedAs (told_by_door (keys_behind s.1.keys e.query.passage.door) t.0.desks
        e.query.passage.door e.query.beyond) e f
        → t.1.keys ≡ keys_left (new_key (keys_behind s.1.keys e.query.passage.door) e.query.beyond)
        s.1.keys e.query.passage.door (jobs_behind s.0.desks e.query.passage.door)
        (jobs_behind t.0.desks e.query.passage.door)
        → AreAskedPlainly (history ++ e ∷ []) (plain ++ f ∷ []) t
