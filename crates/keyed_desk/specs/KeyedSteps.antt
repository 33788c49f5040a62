-- What each change makes of a desk and of the keys beside it.
use Rattle.std.specs.Prelude.{◌≡◌, ◌⊎◌, ◌<◌, ◌^◌, ℕ, List, [], ◌∷◌, length, true, false}
use Rattle.std.specs.Str.{IsUtf8}
use Rattle.sessions.specs.Grammar.{is_job_key}
use Rattle.sessions.specs.JobKeys.{noted}
use Rattle.sessions.specs.declared.job_key.KeyedJob.{KeyedJob}
use Rattle.desk_journal.specs.DeskChanges.{change_bytes}
use Rattle.desk_journal.specs.DeskSteps.{DeskState, IsNewDesk, MakesBytes, RefusesChangeBytes}
use Rattle.desk_journal.specs.declared.change.DeskChange.{DeskChange}
use Rattle.keyed_desk.specs.KeyedChanges.{by_key_bytes, key_kept_bytes}

-- a desk with its open jobs, and its keyed jobs, oldest first
pub record KeyedState : Type 0 where
  pub desk : DeskState
  pub keys : List KeyedJob

-- the bytes are no key
abbrev pub IsNoKey : List ℕ → Type 0
IsNoKey bytes = (IsUtf8 bytes → ⊥) ⊎ (is_job_key bytes ≡ false)

-- What a change with this payload makes of a state: a change of the desk alone; one by a key, which
-- its last job has then; and a key that a job has again.
pub data MakesKeyed (old : KeyedState) (payload : List ℕ) (new : KeyedState) : Type 0 where
  alone : MakesBytes old.desk payload new.desk → new.keys ≡ old.keys → MakesKeyed old payload new
  by_key : (key change : List ℕ) → payload ≡ by_key_bytes key change → is_job_key key ≡ true
      → MakesBytes old.desk change new.desk
      → new.keys ≡ noted old.keys (length new.desk.desk.jobs) key → MakesKeyed old payload new
  key_kept : (job : ℕ) (key : List ℕ) → payload ≡ key_kept_bytes job key → job < 2 ^ 64
      → is_job_key key ≡ true → new.desk ≡ old.desk → new.keys ≡ noted old.keys job key
      → MakesKeyed old payload new

-- in this state the change with this payload isn't one that may be made
pub data RefusesKeyed (old : KeyedState) (payload : List ℕ) : Type 0 where
  not_alone : RefusesChangeBytes old.desk payload → RefusesKeyed old payload
  by_no_key : (key change : List ℕ) → payload ≡ by_key_bytes key change → IsNoKey key
      → RefusesKeyed old payload
  not_by_key : (key change : List ℕ) → payload ≡ by_key_bytes key change
      → RefusesChangeBytes old.desk change → RefusesKeyed old payload
  no_key_kept : (job : ℕ) (key : List ℕ) → payload ≡ key_kept_bytes job key → IsNoKey key
      → RefusesKeyed old payload

-- a new desk without keys
abbrev pub IsNewKeyed : KeyedState → Type 0
IsNewKeyed state = IsNewDesk state.desk × (state.keys ≡ [])

-- the changes of the desk among these, in order, without the keys that they came by
pub data ArePlainOf : List (List ℕ) → List (List ℕ) → Type 0 where
  no_change : ArePlainOf [] []
  one_plain : (change : DeskChange) (changes rest : List (List ℕ)) → ArePlainOf changes rest
      → ArePlainOf (change_bytes change ∷ changes) (change_bytes change ∷ rest)
  one_by_key : (key : List ℕ) (change : DeskChange) (changes rest : List (List ℕ))
      → ArePlainOf changes rest
      → ArePlainOf (by_key_bytes key (change_bytes change) ∷ changes) (change_bytes change ∷ rest)
  one_kept : (job : ℕ) (key : List ℕ) (changes rest : List (List ℕ)) → ArePlainOf changes rest
      → ArePlainOf (key_kept_bytes job key ∷ changes) rest
