-- What a session gives, and the bytes that it still has to cut.
use Rattle.std.specs.Prelude.{◌≡◌, ℕ, List, ◌++◌, None, Some, Option, Result, Ok, Err}
use Rattle.bytes.specs.Filled.{Filled}
use Rattle.sessions.specs.Frames.{front, whole, partial, too_large}
use Rattle.sessions.specs.Answers.{PayloadAnswer}
use Rattle.sessions.specs.declared.fault.SessionFault.{SessionFault}
use Rattle.sessions.specs.declared.fault.SessionFault.TheVariants.{FrameTooLarge, NotJson, BadRequest, NoMemory}
use Rattle.sessions.specs.declared.request.Request.{Request}
use Rattle.sessions.specs.declared.session.Session.{Session}

-- the bytes of the stream that are not yet cut
abbrev pub unread : Session → List ℕ
unread s = s.buffer.items

-- the fault that is answered for ever, once there is one
abbrev pub ended_by : Session → Option SessionFault
ended_by s = s.ended_by

-- What is left of a frame that found no memory, and of the bytes behind it: of these none is lost.
pub data IsLeftAt (payload rest : List ℕ) : List ℕ → Type 0 where
  -- the frame still stands first
  at_its_length : (left : List ℕ) → front left ≡ whole payload rest → IsLeftAt payload rest left
  -- its length is gone
  at_its_payload : IsLeftAt payload rest (payload ++ rest)
  -- the frame is used up
  behind_it : IsLeftAt payload rest rest

-- what is answered of the frame that stands first in these bytes, and which bytes are left
abbrev pub FrameAnswer : Result (Option Filled) SessionFault → List ℕ → List ℕ → Type 0
FrameAnswer (Ok None) bytes left = (front bytes ≡ partial) × (left ≡ bytes)
FrameAnswer (Ok (Some frame)) bytes left = front bytes ≡ whole frame.items left
FrameAnswer (Err FrameTooLarge) bytes left = (front bytes ≡ too_large) × (left ≡ bytes)
FrameAnswer (Err NotJson) bytes left = ⊥
FrameAnswer (Err BadRequest) bytes left = ⊥
FrameAnswer (Err NoMemory) bytes left =
    (payload rest : List ℕ) × (front bytes ≡ whole payload rest) × IsLeftAt payload rest left

-- what is answered of the request that stands first in these bytes, and which bytes are left
abbrev pub RequestAnswer : Result (Option Request) SessionFault → List ℕ → List ℕ → Type 0
RequestAnswer (Ok None) bytes left = (front bytes ≡ partial) × (left ≡ bytes)
RequestAnswer (Ok (Some request)) bytes left =
    (payload : List ℕ) × (front bytes ≡ whole payload left) × PayloadAnswer (Ok request) payload
RequestAnswer (Err FrameTooLarge) bytes left = (front bytes ≡ too_large) × (left ≡ bytes)
RequestAnswer (Err NotJson) bytes left =
    (payload : List ℕ) × (front bytes ≡ whole payload left) × PayloadAnswer (Err NotJson) payload
RequestAnswer (Err BadRequest) bytes left =
    (payload : List ℕ) × (front bytes ≡ whole payload left) × PayloadAnswer (Err BadRequest) payload
RequestAnswer (Err NoMemory) bytes left =
    (payload rest : List ℕ) × (front bytes ≡ whole payload rest) × IsLeftAt payload rest left
