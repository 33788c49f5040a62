-- The keyed jobs that a history took at the door of one desk.
use Rattle.std.specs.Prelude.{◌≡◌, ◌⊎◌, ℕ, List, [], ◌∷◌, ◌++◌, Option, Some, None, Result, Ok}
use Rattle.sessions.specs.Grammar.{Asked, JobText, submit}
use Rattle.sessions.specs.Replies.{frame_or_refusal, refusal_data}
use Rattle.sessions.specs.declared.door_forms.DoorForm.TheVariants.{Keyed}
use Rattle.sessions.specs.declared.job_key.KeyedJob.{KeyedJob}
use Rattle.shared_desk.specs.Histories.{HistoryEntry, Query}
use Rattle.tenant_desks.specs.AtDoors.{submit_frame}
use Rattle.sessions.specs.JobKeys.{job_among, latest}
use Rattle.tenant_desks.specs.Routing.{place_behind}

-- what is asked is a submit by this key, at the door of the desk at this place
abbrev pub AsksByKey : ℕ → List ℕ → Query → Type 0
AsksByKey place key query =
    (place_behind query.passage.door ≡ place) × (query.beyond ≡ Some (Keyed (Some key)))

-- a request, and no submit
abbrev pub IsOtherRequest : Result Asked ℕ → Type 0
IsOtherRequest request =
    (asked : Asked) × (request ≡ Ok asked)
    × ((name : List ℕ) (job : JobText) → asked ≡ submit name job → ⊥)

-- what is asked is no submit, or the reply is a refusal
abbrev pub IsGivenNone : Result Asked ℕ → List ℕ → Type 0
IsGivenNone asked reply =
    IsOtherRequest asked
    ⊎ ((code : ℕ) × (program : Option ℕ) × (slot : Option ℕ)
    × (reply ≡ frame_or_refusal (refusal_data code program slot)))

-- The keyed jobs that a history took at a desk's door, oldest first. Its keys are those of its last
-- 1,000 keyed jobs.
pub data AreKeyed (place : ℕ) : List HistoryEntry → List KeyedJob → Type 0 where
  none_yet : AreKeyed place [] []
  -- a submit by a new key is told the number of a job, which has this key from then on
  one_taken : (history : List HistoryEntry) (jobs : List KeyedJob) (e : HistoryEntry)
      (key : List ℕ) (job : ℕ)
      → AreKeyed place history jobs → AsksByKey place key e.query
      → job_among (latest jobs) key ≡ None → e.reply ≡ submit_frame job
      → AreKeyed place (history ++ e ∷ []) (jobs ++ record { job = job; key = key } ∷ [])
  -- or it is told why it has none
  none_taken : (history : List HistoryEntry) (jobs : List KeyedJob) (e : HistoryEntry)
      (key : List ℕ)
      → AreKeyed place history jobs → AsksByKey place key e.query
      → job_among (latest jobs) key ≡ None → IsGivenNone e.query.asked e.reply
      → AreKeyed place (history ++ e ∷ []) jobs
  -- a submit by one of the keys is told the number of that key's job
  one_again : (history : List HistoryEntry) (jobs : List KeyedJob) (e : HistoryEntry)
      (key : List ℕ) (job : ℕ)
      → AreKeyed place history jobs → AsksByKey place key e.query
      → job_among (latest jobs) key ≡ Some job → e.reply ≡ submit_frame job
      → AreKeyed place (history ++ e ∷ []) jobs
  -- nothing else has a key there
  other : (history : List HistoryEntry) (jobs : List KeyedJob) (e : HistoryEntry)
      → AreKeyed place history jobs → ((key : List ℕ) → AsksByKey place key e.query → ⊥)
      → AreKeyed place (history ++ e ∷ []) jobs
