-- What a handle holds of a desk, and what C's calls do with it.
use Rattle.std.specs.Prelude.{◌≡◌, ℕ, ◌<◌, ◌≤◌, List, [], ◌∷◌, ◌++◌, length, drop, Option, None, Some, Result, Ok, Err, Vec, is_some, true, false}
use Rattle.std.specs.declared.alloc.Global.{Global}
use Rattle.std.specs.BTreeMap.{get, Updates}
use Rattle.std.specs.Ordering.{nat_cmp}
use Rattle.conversation.specs.Endings.{code_of_ending}
use Rattle.conversation.specs.Handed.{HasFirst}
use Rattle.conversation.specs.Hosting.{Connects, FeedsAt, IsAsBefore, IsEmptyDesk, Sends}
use Rattle.conversation.specs.declared.ended.Ended.{Ended}
use Rattle.conversation.specs.declared.host_desk.HostDesk.{HostDesk}
use Rattle.conversation.specs.declared.host_desk.Sent.{Sent}
use Rattle.telgovan_c.specs.declared.desk_handle.DeskHandle.{DeskHandle}
use Rattle.telgovan_c.specs.declared.desks.HandedJob.{HandedJob}
use Rattle.telgovan_c.specs.declared.desks.SentReplies.{SentReplies}

-- the desk that the handle holds, if it holds one
abbrev pub desk_in : DeskHandle → Option HostDesk
desk_in d = d.held.kept

-- a new desk is held; or there is no memory, and the handle holds what it held
pub data IsDesk (old new : Option HostDesk) (status : ℕ) : Type 0 where
  made : (desk : HostDesk) → IsEmptyDesk desk → new ≡ Some desk → status ≡ 0 → IsDesk old new status
  no_memory : new ≡ old → status ≡ 99 → IsDesk old new status

-- a conversation is begun; or there is no memory or no desk, and nothing changes
pub data IsConnected (old : Option HostDesk) (was : ℕ) (new : Option HostDesk) (told status : ℕ) :
    Type 0 where
  connected : (desk after : HostDesk) → old ≡ Some desk → new ≡ Some after
      → Connects desk told after → status ≡ 0 → IsConnected old was new told status
  no_memory : (desk after : HostDesk) → old ≡ Some desk → new ≡ Some after
      → IsAsBefore desk after → told ≡ was → status ≡ 99 → IsConnected old was new told status
  no_desk : old ≡ None → new ≡ None → told ≡ was → status ≡ 41
      → IsConnected old was new told status

abbrev pub status_of : Result (Unit {0}) Ended → ℕ
status_of (Ok _) = 0
status_of (Err ended) = code_of_ending ended

-- a piece is taken; or there is no such connection or no desk, and nothing changes
pub data IsFed (old : Option HostDesk) (connection : ℕ) (bytes : List ℕ) (new : Option HostDesk)
    (status : ℕ) : Type 0 where
  fed : (desk after : HostDesk) (result : Result (Unit {0}) Ended) → old ≡ Some desk
      → new ≡ Some after → FeedsAt desk connection bytes result after → status ≡ status_of result
      → IsFed old connection bytes new status
  no_connection : (desk after : HostDesk) → old ≡ Some desk → new ≡ Some after
      → get nat_cmp desk.conversations connection ≡ None → IsAsBefore desk after → status ≡ 78
      → IsFed old connection bytes new status
  no_desk : old ≡ None → new ≡ None → status ≡ 41 → IsFed old connection bytes new status

-- replies are given to be sent; or there is no such connection or no desk, and nothing changes
pub data IsSent (old : Option HostDesk) (connection : ℕ) (before : List ℕ) (was : SentReplies)
    (new : Option HostDesk) (room : List ℕ) (told : SentReplies) (status : ℕ) : Type 0 where
  sent : (desk after : HostDesk) (sent : Sent) → old ≡ Some desk → new ≡ Some after
      → Sends desk connection before room sent after
      → told ≡ record { count = sent.count; left = sent.left } → status ≡ 0
      → IsSent old connection before was new room told status
  no_connection : (desk after : HostDesk) → old ≡ Some desk → new ≡ Some after
      → get nat_cmp desk.conversations connection ≡ None → IsAsBefore desk after → room ≡ before
      → told ≡ was → status ≡ 78 → IsSent old connection before was new room told status
  no_desk : old ≡ None → new ≡ None → room ≡ before → told ≡ was → status ≡ 41
      → IsSent old connection before was new room told status

-- a conversation is ended; or there is no such connection or no desk, and nothing changes
pub data IsDisconnected (old : Option HostDesk) (connection : ℕ) (new : Option HostDesk)
    (status : ℕ) : Type 0 where
  ended : (desk after : HostDesk) → old ≡ Some desk → new ≡ Some after
      → is_some (get nat_cmp desk.conversations connection) ≡ true
      → Updates nat_cmp desk.conversations after.conversations connection None
      → after.clerk ≡ desk.clerk → status ≡ 0 → IsDisconnected old connection new status
  no_connection : (desk after : HostDesk) → old ≡ Some desk → new ≡ Some after
      → get nat_cmp desk.conversations connection ≡ None → IsAsBefore desk after → status ≡ 78
      → IsDisconnected old connection new status
  no_desk : old ≡ None → new ≡ None → status ≡ 41 → IsDisconnected old connection new status

-- the first job that waits is handed over, with its object; or the room is too short for that, and
-- the job waits as before; or no job waits
pub data IsHandedBy (old : HostDesk) (before : List ℕ) (new : HostDesk) (room : List ℕ)
    (told : HandedJob) (status : ℕ) : Type 0 where
  handed : (number : ℕ) (object : Vec ℕ Global)
      → old.clerk.jobs.waiting.entries ≡ (number, object) ∷ new.clerk.jobs.waiting.entries
      → new.clerk.ledger ≡ old.clerk.ledger → new.conversations ≡ old.conversations
      → length object.items ≤ length before
      → room ≡ object.items ++ drop (length object.items) before
      → told ≡ record { job = number; length = length object.items } → status ≡ 0
      → IsHandedBy old before new room told status
  short : (number : ℕ) (text : List ℕ) → HasFirst old.clerk.jobs.waiting.entries number text
      → new ≡ old → length before < length text → room ≡ before
      → told ≡ record { job = number; length = length text } → status ≡ 65
      → IsHandedBy old before new room told status
  none_waits : old.clerk.jobs.waiting.entries ≡ [] → new.clerk.jobs.waiting.entries ≡ []
      → new.clerk.ledger ≡ old.clerk.ledger → new.conversations ≡ old.conversations
      → room ≡ before → told ≡ record { job = 0; length = 0 } → status ≡ 0
      → IsHandedBy old before new room told status

pub data IsJobGiven (old : Option HostDesk) (before : List ℕ) (was : HandedJob)
    (new : Option HostDesk) (room : List ℕ) (told : HandedJob) (status : ℕ) : Type 0 where
  by_desk : (desk after : HostDesk) → old ≡ Some desk → new ≡ Some after
      → IsHandedBy desk before after room told status
      → IsJobGiven old before was new room told status
  no_desk : old ≡ None → new ≡ None → room ≡ before → told ≡ was → status ≡ 41
      → IsJobGiven old before was new room told status
