-- A desk with its conversations, by number.
use Rattle.std.specs.Prelude.{◌≡◌, ℕ, ◌<◌, List, [], ◌++◌, length, take, drop, min, Some, None, Err, Result, OnOk, IfErr, IfSome}
use Rattle.std.specs.BTreeMap.{get, Updates}
use Rattle.std.specs.Ordering.{nat_cmp}
use Rattle.sessions.specs.Frames.{front, partial}
use Rattle.sessions.specs.Session.{unread}
use Rattle.streams.specs.Hearing.{by_reading}
use Rattle.streams.specs.Serves.{Serves}
use Rattle.conversation.specs.Clerks.{clerk_answers}
use Rattle.conversation.specs.Conversations.{IsNewConversation, IsOpenConversation}
use Rattle.conversation.specs.Endings.{IsEnded}
use Rattle.conversation.specs.declared.clerk.Clerk.{Clerk}
use Rattle.conversation.specs.declared.conversation.Conversation.{Conversation}
use Rattle.conversation.specs.declared.ended.Ended.{Ended}
use Rattle.conversation.specs.declared.host_desk.HostDesk.{HostDesk}
use Rattle.conversation.specs.declared.host_desk.Sent.{Sent}

-- no tenant, no job and no connection
abbrev pub IsEmptyDesk : HostDesk → Type 0
IsEmptyDesk desk = (desk.clerk.ledger ≡ record { grants = []; past = []; jobs = [] })
    × (desk.clerk.jobs.waiting.entries ≡ []) × (desk.conversations.entries ≡ [])

-- nothing changes
abbrev pub IsAsBefore : HostDesk → HostDesk → Type 0
IsAsBefore old new = (new.conversations.entries ≡ old.conversations.entries)
    × (new.connected ≡ old.connected) × (new.clerk ≡ old.clerk)

-- A piece of a conversation is taken. Every frame that is whole now is answered, in order, behind
-- what was still to be sent; or the conversation ends. One that is over says so again, and nothing
-- changes.
pub record Feeds (clerk : Clerk) (old : Conversation) (piece : List ℕ)
    (result : Result (Unit {0}) Ended) (after : Clerk) (new : Conversation) : Type 0 where
  pub served : OnOk result ((count : ℕ)
      × Serves (by_reading clerk_answers) (tt, clerk) (unread old.session ++ piece) old.due.items count
      (tt, after)
      (unread new.session) new.due.items)
  pub left : OnOk result (front (unread new.session) ≡ partial)
  pub goes_on : OnOk result (IsOpenConversation new)
  pub ended : IsOpenConversation old → IfErr result (λ ended.
      IsEnded ended (by_reading clerk_answers) (tt, clerk) (unread old.session ++ piece) old.due.items
      (tt, after)
      new.due.items)
  pub told : IfErr result (λ ended. new.ended ≡ Some ended)
  pub closed : IfSome old.ended (λ ended. (result ≡ Err ended) × (new ≡ old) × (after ≡ clerk))

-- a conversation of this number is fed, and nothing changes of the others
pub record FeedsAt (desk : HostDesk) (number : ℕ) (piece : List ℕ)
    (result : Result (Unit {0}) Ended) (after : HostDesk) : Type 0 where
  pub old : Conversation
  pub new : Conversation
  pub was : get nat_cmp desk.conversations number ≡ Some old
  pub updates : Updates nat_cmp desk.conversations after.conversations number (Some new)
  pub feeds : Feeds desk.clerk old piece result after.clerk new
  pub connected : after.connected ≡ desk.connected

-- a conversation is begun, under a number that none had before
pub record Connects (desk : HostDesk) (number : ℕ) (after : HostDesk) : Type 0 where
  pub conversation : Conversation
  pub fresh : IsNewConversation conversation
  pub was : get nat_cmp desk.conversations number ≡ None
  pub updates : Updates nat_cmp desk.conversations after.conversations number (Some conversation)
  pub later : desk.connected < number
  pub connected : after.connected ≡ number

-- bytes that were to be sent in a conversation are given into the room, as many as fit
pub record Sends (desk : HostDesk) (number : ℕ) (before room : List ℕ) (sent : Sent)
    (after : HostDesk) : Type 0 where
  pub old : Conversation
  pub new : Conversation
  pub was : get nat_cmp desk.conversations number ≡ Some old
  pub updates : Updates nat_cmp desk.conversations after.conversations number (Some new)
  pub count : sent.count ≡ min (length before) (length old.due.items)
  pub given : room ≡ take sent.count old.due.items ++ drop sent.count before
  pub due : new.due.items ≡ drop sent.count old.due.items
  pub left : sent.left ≡ length new.due.items
  pub session : new.session ≡ old.session
  pub ended : new.ended ≡ old.ended
