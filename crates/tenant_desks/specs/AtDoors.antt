-- The answers of a handler of plain requests, behind doors that hear forms of their own.
use Rattle.std.specs.Prelude.{◌≡◌, ℕ, List, [], length, slice_get, slice_set, nat_lt, if◌then◌else◌, Option, Some, None, Result, Ok, Err, option_map, unwrap_or}
use Rattle.refusal.specs.declared.NoMemory.{NoMemory}
use Rattle.accounts.specs.Ledgers.{Ledger}
use Rattle.sessions.specs.Replies.{frame_of}
use Rattle.sessions.specs.declared.door_forms.DoorForm.{DoorForm}
use Rattle.sessions.specs.declared.door_forms.DoorForm.TheVariants.{Jobs, Keyed, Server}
use Rattle.sessions.specs.declared.job_key.KeyedJob.{KeyedJob}
use Rattle.sessions.specs.declared.reply.Reply.TheVariants as reply
use Rattle.shared_desk.specs.declared.door.Door.{Door}
use Rattle.shared_desk.specs.declared.passage.Passage.{Passage}
use Rattle.shared_desk.specs.Histories.{Query}
use Rattle.sessions.specs.JobKeys.{job_among, noted}
use Rattle.tenant_desks.specs.JobLists.{jobs_frame}
use Rattle.tenant_desks.specs.Routing.{place_behind}
use Rattle.tenant_desks.specs.Tenancies.{Tenancy}

-- What contracts see of a handler behind doors: the handler, and the keyed jobs that each desk's own
-- door remembers, oldest first.
pub record BehindDoors (H : Type 0) : Type 0 where
  pub handler : H
  pub keys : List (List KeyedJob)

-- the desks and the handler alone
abbrev pub without_keys : {H : Type 0} → Tenancy × BehindDoors H → Tenancy × H
without_keys s = (s.0, s.1.handler)

-- the keyed jobs that a door remembers
abbrev pub keys_behind : List (List KeyedJob) → Door → List KeyedJob
keys_behind keys door = unwrap_or (slice_get keys (place_behind door)) []

-- how many jobs a desk has taken, if there is one
abbrev pub count_of_jobs : Option Ledger → ℕ
count_of_jobs None = 0
count_of_jobs (Some desk) = length desk.jobs

-- how many jobs a door's own desk has taken
abbrev pub jobs_behind : List Ledger → Door → ℕ
jobs_behind desks door = count_of_jobs (slice_get desks (place_behind door))

-- the frame that tells the number of a job that was taken
abbrev pub submit_frame : ℕ → List ℕ
submit_frame job = frame_of (reply.Submit job)

-- What a door that remembers these tells by itself, at desks as they stand: a listing, 73 to a submit
-- whose key is none, and the number of its job to one whose key is remembered. What is asked of the
-- server itself is no request here.
abbrev pub told_by_door : List KeyedJob → List Ledger → Door → Option DoorForm → Option (List ℕ)
told_by_door keys desks door None = None
told_by_door keys desks door (Some (Jobs from)) = Some (jobs_frame desks door from keys)
told_by_door keys desks door (Some (Keyed None)) = Some (frame_of (reply.Refused 73 None None))
told_by_door keys desks door (Some (Keyed (Some key))) = option_map submit_frame (job_among keys key)
told_by_door keys desks door (Some (Server stops)) = Some (frame_of (reply.Refused 73 None None))

-- a key that has no job yet
abbrev pub unless_known : Option ℕ → List ℕ → Option (List ℕ)
unless_known None key = Some key
unless_known (Some job) key = None

-- the key of a submit that a door which remembers these doesn't know yet, if it is one
abbrev pub new_key : List KeyedJob → Option DoorForm → Option (List ℕ)
new_key keys None = None
new_key keys (Some (Jobs from)) = None
new_key keys (Some (Keyed None)) = None
new_key keys (Some (Keyed (Some key))) = unless_known (job_among keys key) key
new_key keys (Some (Server stops)) = None

-- the same, where one door remembers one keyed job more
abbrev pub with_key : List (List KeyedJob) → Door → ℕ → List ℕ → List (List KeyedJob)
with_key keys door job key =
    slice_set keys (place_behind door) (noted (keys_behind keys door) job key)

-- What the doors remember behind an answer: of a new key the job that the door's own desk took, if
-- it took one, by its jobs before and behind.
abbrev pub keys_left : Option (List ℕ) → List (List KeyedJob) → Door → ℕ → ℕ
    → List (List KeyedJob)
keys_left None keys door before after = keys
keys_left (Some key) keys door before after =
    if nat_lt before after then with_key keys door after key else keys

-- no request of the plain protocol, by a passage
abbrev pub no_request_by : Passage → Query
no_request_by passage = record { passage = passage; asked = Err 73; beyond = None }

-- what is asked by the plain protocol alone
abbrev pub plainly : Query → Query
plainly query = record { passage = query.passage; asked = query.asked; beyond = None }

-- what the handler is asked is no request, which passes finished jobs to their desks
abbrev pub AsksNothing : {S : Type 0} → (S → Query → List ℕ → S → Type 0) → Passage → S → S → Type 0
AsksNothing answers passage s t = (told : List ℕ) × answers s (no_request_by passage) told t

-- What the door tells by itself, where it does: the handler is asked nothing then. Else the handler
-- answers the plain request.
abbrev pub AnswersOrTells : {S : Type 0} → (S → Query → List ℕ → S → Type 0) → Option (List ℕ)
    → S → Query → List ℕ → S → Type 0
AnswersOrTells answers None s query reply t = answers s (plainly query) reply t
AnswersOrTells answers (Some frame) s query reply t =
    AsksNothing answers query.passage s t × (reply ≡ frame)

-- what a handler keeps that keeps no keys
abbrev pub keeps_no_key : {S : Type 0} → S → Door → Option (List ℕ) → S → Type 0
keeps_no_key s door key t = Unit {0}

-- The answers of a handler of plain requests behind doors that hear more. What the handler keeps
-- beside the desks has the key of a submit that the door didn't know.
abbrev pub answers_at_doors : {H : Type 0} → (Tenancy × H → Query → List ℕ → Tenancy × H → Type 0)
    → (Tenancy × H → Door → Option (List ℕ) → Tenancy × H → Type 0)
    → Tenancy × BehindDoors H → Query → List ℕ → Tenancy × BehindDoors H → Type 0
answers_at_doors answers keeps s query reply t =
    AnswersOrTells answers
    (told_by_door (keys_behind s.1.keys query.passage.door) t.0.desks query.passage.door query.beyond)
    (without_keys s) query reply (without_keys t)
    × (t.1.keys ≡ keys_left (new_key (keys_behind s.1.keys query.passage.door) query.beyond)
    s.1.keys query.passage.door (jobs_behind s.0.desks query.passage.door)
    (jobs_behind t.0.desks query.passage.door))
    × keeps (without_keys s) query.passage.door
    (new_key (keys_behind s.1.keys query.passage.door) query.beyond) (without_keys t)

-- Used by private contracts: a reply was decided, and is given where there was memory for it.
abbrev pub GivesReply : (List ℕ → Type 0) → Result (List ℕ) NoMemory → Type 0
GivesReply decided (Ok reply) = decided reply
GivesReply decided (Err none) = (reply : List ℕ) × decided reply
