-- How a stream ends.
use Rattle.std.specs.Prelude.{◌≡◌, ◌≤◌, ◌<◌, ◌⊎◌, List, ℕ, ◌++◌, ◌-◌, ◌^◌, length, take, min, None}
use Rattle.sessions.specs.Frames.{Front, front, whole, partial, too_large}
use Rattle.sessions.specs.Replies.{frame_of}
use Rattle.sessions.specs.declared.reply.Reply.TheVariants.{Refused}
use Rattle.streams.specs.Serves.{Serves}
use Rattle.streams.specs.Unanswered.{IsUnanswered}
use Rattle.streams.specs.declared.fault.StreamFault.{StreamFault}
use Rattle.streams.specs.declared.fault.StreamFault.TheVariants.{ReadFailed, WriteFailed, NoMemory}

-- what is answered to a length over the limit
abbrev pub too_large_reply : List ℕ
too_large_reply = frame_of (Refused 71 None None)

-- what is written last, by what stands first in the bytes that are left: a length over the limit is
-- answered once, and a frame that is cut short by nothing
abbrev pub EndsWith : Front → List ℕ → List ℕ → Type 0
EndsWith (whole payload rest) out written = ⊥
EndsWith partial out written = written ≡ out
EndsWith too_large out written = written ≡ out ++ too_large_reply

-- why nothing more is read: the reader is over, or has given so many bytes; or a length over the
-- limit came
abbrev pub StopsAt : Front → Type 0 → List ℕ → Type 0
StopsAt (whole payload rest) over bytes = ⊥
StopsAt partial over bytes = over ⊎ (2 ^ 64 - 1 ≤ length bytes)
StopsAt too_large over bytes = Unit {0}

-- Every frame of the bytes is answered, and the number is that of the frames. `over` says that the
-- reader has no more.
pub record IsServed {S : Type 0} (answers : S → List ℕ → List ℕ → S → Type 0) (start : S)
    (bytes before : List ℕ) (over : Type 0) (end : S) (number : ℕ) (after : List ℕ) : Type 0 where
  pub count : ℕ
  pub left : List ℕ
  pub out : List ℕ
  pub frames : Serves answers start bytes before count end left out
  pub counts : number ≡ min count (2 ^ 64 - 1)
  pub last : EndsWith (front left) out after
  pub stops : StopsAt (front left) over bytes

-- The reader failed: every frame that is whole in the bytes is answered, and what was written are
-- the whole replies.
pub record IsReadOut {S : Type 0} (answers : S → List ℕ → List ℕ → S → Type 0) (start : S)
    (bytes before : List ℕ) (end : S) (after : List ℕ) : Type 0 where
  pub count : ℕ
  pub left : List ℕ
  pub frames : Serves answers start bytes before count end left after
  pub waits : front left ≡ partial

-- what is due once so many frames are answered: their replies, and one 71 behind them, where a
-- length over the limit comes next
abbrev pub IsDue : Front → List ℕ → List ℕ → Type 0
IsDue next out due = (due ≡ out) ⊎ ((next ≡ too_large) × (due ≡ out ++ too_large_reply))

-- behind what was written before, a beginning of what is due is written, and not all of it
pub record IsPartWritten (before due after : List ℕ) : Type 0 where
  pub part : List ℕ
  pub lacking : List ℕ
  pub written : after ≡ before ++ part
  pub lacks : after ++ lacking ≡ due
  pub some : 0 < length lacking

-- frames of these bytes are answered, and what is due then isn't written whole
pub record IsCutShort {S : Type 0} (answers : S → List ℕ → List ℕ → S → Type 0) (start : S)
    (bytes before : List ℕ) (end : S) (after : List ℕ) : Type 0 where
  pub count : ℕ
  pub left : List ℕ
  pub out : List ℕ
  pub due : List ℕ
  pub frames : Serves answers start bytes before count end left out
  pub is_due : IsDue (front left) out due
  pub cut : IsPartWritten before due after

-- The writer failed. Every frame that was whole before the last piece came is answered, and its
-- reply written. Of what is due to the frames that are whole with that piece, which has at most
-- 4,096 bytes, a beginning is written, and not all. The state is that after the frames that were
-- heard.
pub record IsCutOff {S : Type 0} (answers : S → List ℕ → List ℕ → S → Type 0) (start : S)
    (bytes before : List ℕ) (end : S) (after : List ℕ) : Type 0 where
  pub early : List ℕ
  pub piece : List ℕ
  pub came : bytes ≡ early ++ piece
  pub short : length piece ≤ 4096
  pub count : ℕ
  pub state : S
  pub left : List ℕ
  pub out : List ℕ
  pub frames : Serves answers start early before count state left out
  pub waits : front left ≡ partial
  pub stop : IsCutShort answers state (left ++ piece) out end after

-- There was no memory: frames are answered up to some frame, by whole replies, and of the next
-- reply, if its frame was answered, nothing is written.
pub data IsStarved {S : Type 0} (answers : S → List ℕ → List ℕ → S → Type 0) (start : S)
    (bytes before : List ℕ) : S → List ℕ → Type 0 where
  between : (count : ℕ) (s : S) (left out : List ℕ)
      → Serves answers start bytes before count s left out
      → IsStarved answers start bytes before s out
  ahead_of_reply : (count : ℕ) (s : S) (left out payload rest reply : List ℕ) (t : S)
      → Serves answers start bytes before count s left out
      → front left ≡ whole payload rest → answers s payload reply t
      → IsStarved answers start bytes before t out

-- what is left of a stream that was given up by this
abbrev pub IsStoppedBy : {S : Type 0} → StreamFault → (S → List ℕ → List ℕ → S → Type 0) → S
    → List ℕ → List ℕ → S → List ℕ → Type 0
IsStoppedBy ReadFailed answers start bytes before end after =
    IsReadOut answers start bytes before end after
IsStoppedBy WriteFailed answers start bytes before end after =
    IsCutOff answers start bytes before end after
IsStoppedBy NoMemory answers start bytes before end after =
    IsStarved answers start bytes before end after

-- ---- within a piece, where replies wait to be written behind what was

-- what is left where a reply can't be put behind those that wait
abbrev pub IsUnwritten : {S : Type 0} → StreamFault → (S → List ℕ → List ℕ → S → Type 0) → S
    → List ℕ → List ℕ → List ℕ → S → List ℕ → List ℕ → Type 0
IsUnwritten ReadFailed answers s payload before waiting t after waiting' = ⊥
IsUnwritten WriteFailed answers s payload before waiting t after waiting' =
    (reply : List ℕ) × answers s payload reply t
    × IsPartWritten before ((before ++ waiting) ++ reply) after
IsUnwritten NoMemory answers s payload before waiting t after waiting' =
    IsUnanswered answers s payload t × (after ≡ before) × (waiting' ≡ waiting)

-- what is left where a piece isn't answered to its end: some replies may still wait
abbrev pub IsGivenUp : {S : Type 0} → StreamFault → (S → List ℕ → List ℕ → S → Type 0) → S
    → List ℕ → List ℕ → S → List ℕ → List ℕ → Type 0
IsGivenUp ReadFailed answers start bytes before end after waiting = ⊥
IsGivenUp WriteFailed answers start bytes before end after waiting =
    IsCutShort answers start bytes before end after
IsGivenUp NoMemory answers start bytes before end after waiting =
    IsStarved answers start bytes before end (after ++ waiting)

-- what is written begins with what was
abbrev pub IsGrown : List ℕ → List ℕ → Type 0
IsGrown before after = (part : List ℕ) × (after ≡ before ++ part)

-- and where the last 71 isn't
abbrev pub IsLastUnwritten : StreamFault → List ℕ → List ℕ → Type 0
IsLastUnwritten ReadFailed before after = ⊥
IsLastUnwritten WriteFailed before after =
    (n : ℕ) × (n < length too_large_reply) × (after ≡ before ++ take n too_large_reply)
IsLastUnwritten NoMemory before after = after ≡ before
