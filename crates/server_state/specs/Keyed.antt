-- The keyed jobs of a server that has one desk.
use Rattle.std.specs.Prelude.{◌≡◌, ℕ, ◌==◌, List, [], ◌∷◌, ◌++◌, if◌then◌else◌, Option, Some, None}
use Rattle.sessions.specs.JobKeys.{job_among, latest}
use Rattle.sessions.specs.Replies.{frame_or_refusal, refusal_data}
use Rattle.sessions.specs.declared.job_key.KeyedJob.{KeyedJob}
use Rattle.server_state.specs.Desks.{submit_frame}
use Rattle.server_state.specs.Histories.{ServerEvent, was_asked, has_ended}
use Rattle.server_state.specs.Queries.{Query, plain, keyed, jobs, counts}

abbrev pub query_key : Query → Option (List ℕ)
query_key (plain asked) = None
query_key (keyed key asked) = key
query_key (jobs from) = None
query_key (counts stops) = None

-- the key of a submit by a connection of the desk
abbrev pub event_key : ServerEvent → Option (List ℕ)
event_key (was_asked connection access query frame started) =
    if access.desk == 0 then query_key query else None
event_key (has_ended id outcome) = None

-- the frame that was sent
abbrev pub frame_of_event : ServerEvent → List ℕ
frame_of_event (was_asked connection access query frame started) = frame
frame_of_event (has_ended id outcome) = []

-- the frame of a refusal
abbrev pub IsRefusalFrame : List ℕ → Type 0
IsRefusalFrame frame = (code : ℕ) × (program slot : Option ℕ)
    × (frame ≡ frame_or_refusal (refusal_data code program slot))

-- The keyed jobs behind a history that begins with these, oldest first. A submit by a key of the last
-- 1,000 of them is sent the number of that key's job. One by another key is sent the number of a
-- job, which has this key from then on, or a refusal.
pub data AreKeyed (first : List KeyedJob) : List ServerEvent → List KeyedJob → Type 0 where
  none_yet : AreKeyed first [] first
  one_taken : (events : List ServerEvent) (keyed_jobs : List KeyedJob) (e : ServerEvent) (key : List ℕ) (job : ℕ)
      → AreKeyed first events keyed_jobs → event_key e ≡ Some key
      → job_among (latest keyed_jobs) key ≡ None → frame_of_event e ≡ submit_frame job
      → AreKeyed first (events ++ e ∷ []) (keyed_jobs ++ record { job = job; key = key } ∷ [])
  none_taken : (events : List ServerEvent) (keyed_jobs : List KeyedJob) (e : ServerEvent) (key : List ℕ)
      → AreKeyed first events keyed_jobs → event_key e ≡ Some key
      → job_among (latest keyed_jobs) key ≡ None → IsRefusalFrame (frame_of_event e)
      → AreKeyed first (events ++ e ∷ []) keyed_jobs
  one_again : (events : List ServerEvent) (keyed_jobs : List KeyedJob) (e : ServerEvent) (key : List ℕ) (job : ℕ)
      → AreKeyed first events keyed_jobs → event_key e ≡ Some key
      → job_among (latest keyed_jobs) key ≡ Some job → frame_of_event e ≡ submit_frame job
      → AreKeyed first (events ++ e ∷ []) keyed_jobs
  other : (events : List ServerEvent) (keyed_jobs : List KeyedJob) (e : ServerEvent)
      → AreKeyed first events keyed_jobs → event_key e ≡ None
      → AreKeyed first (events ++ e ∷ []) keyed_jobs
