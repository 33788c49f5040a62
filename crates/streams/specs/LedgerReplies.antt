-- The replies to the frames of a stream over the plain ledger alone: each job is played when it is
-- submitted, and is over then.
use Rattle.std.specs.Prelude.{◌≡◌, ◌⊎◌, ◌-◌, ◌^◌, ℕ, List, [], ◌∷◌, ◌++◌, length, map, min, false, Result, Ok, Err}
use Rattle.serde_json.specs.Data.{Data}
use Rattle.credit_book.specs.declared.book.Report.{Report}
use Rattle.credit_book.specs.declared.board.Progress.{Progress}
use Rattle.job_core.specs.declared.admission.ProgramBytes.{ProgramBytes}
use Rattle.job_core.specs.Admission.{IsAdmittedFrom}
use Rattle.job_core.specs.Admitted as core
use Rattle.accounts.specs.declared.fault.SubmitFault.{SubmitFault}
use Rattle.accounts.specs.Ledgers.{Ledger, RefusesSubmit, Takes, Finishes, account_at, progress_at, report_at}
use Rattle.sessions.specs.Frames.{front, frames_of, too_large}
use Rattle.sessions.specs.Grammar.{Asked, grant, account, submit, status, result, program_asked}
use Rattle.sessions.specs.Answers.{Hears}
use Rattle.sessions.specs.Replies.{frame_of, reply_data, submit_data}
use Rattle.sessions.specs.declared.reply.Reply.{Reply}
use Rattle.streams.specs.Answering.{Grants, GrantsNone, account_told, progress_told, refused, report_told, submit_refused}
use Rattle.streams.specs.Passing.{Notes}
use Rattle.streams.specs.Stops.{EndsWith, StopsAt, too_large_reply}
use Rattle.job_core.specs.PlaysLowest.{IsPlayed}

-- what a job that is submitted comes to: the report of its run, in which the live task of lowest
-- number is always the next; or no run, for want of memory
abbrev pub ComesTo : core.AdmittedJob → Result Report ℕ → Type 0
ComesTo job (Ok report) = IsPlayed job report
ComesTo job (Err code) = code ≡ 99

-- a job is taken and played, and is over under its number, which is told
pub record TakesAndPlays (desk : Ledger) (name : List ℕ) (programs : List ProgramBytes) (credit : ℕ)
    (buffer : List ℕ) (told : Data) (after : Ledger) : Type 0 where
  pub mid : Ledger
  pub takes : Takes desk name credit mid
  pub job : core.AdmittedJob
  pub admitted : IsAdmittedFrom programs credit buffer job
  pub outcome : Result Report ℕ
  pub comes : ComesTo job outcome
  pub finishes : Finishes mid (length mid.jobs) outcome after
  pub tells : told ≡ submit_data (length mid.jobs)

-- or it isn't taken, and nothing changes
pub record PlaysNone (desk : Ledger) (name : List ℕ) (programs : List ProgramBytes) (credit : ℕ)
    (buffer : List ℕ) (told : Data) (after : Ledger) : Type 0 where
  pub fault : SubmitFault
  pub why : RefusesSubmit desk name programs credit buffer fault
  pub same : after ≡ desk
  pub tells : told ≡ submit_refused fault

-- what a job has come to of which nothing is seen
abbrev pub unseen : Progress
unseen = record { spent = 0; returned = 0; complete = false }

-- what is told to what a frame asks, or to the number of its refusal, and the ledger after it
unfoldable pub RepliesWith : Ledger → Result Asked ℕ → Data → Ledger → Type 0
RepliesWith desk (Err code) told after = (told ≡ refused code) × (after ≡ desk)
RepliesWith desk (Ok (grant name amount)) told after =
    Grants desk name amount told after ⊎ GrantsNone desk name amount told after
RepliesWith desk (Ok (account name)) told after =
    (told ≡ account_told (account_at desk name)) × (after ≡ desk)
RepliesWith desk (Ok (submit name order)) told after =
    (programs : List ProgramBytes) × (map program_asked programs ≡ order.programs)
    × (TakesAndPlays desk name programs order.credit order.buffer told after
    ⊎ PlaysNone desk name programs order.credit order.buffer told after)
RepliesWith desk (Ok (status number)) told after =
    (told ≡ progress_told (progress_at desk number unseen)) × (after ≡ desk)
RepliesWith desk (Ok (result number)) told after =
    (told ≡ report_told (report_at desk number)) × (after ≡ desk)

-- The payloads are answered one after the other, from a ledger to another, and these are the frames
-- of the replies, joined.
pub data RepliesTo (start : Ledger) : List (List ℕ) → List ℕ → Ledger → Type 0 where
  none_yet : RepliesTo start [] [] start
  one_more : (payloads : List (List ℕ)) (text : List ℕ) (desk : Ledger) (payload : List ℕ)
      (query : Result Asked ℕ) (told : Reply) (after : Ledger) → RepliesTo start payloads text desk
      → Hears payload query → RepliesWith desk query (reply_data told) after
      → RepliesTo start (payloads ++ payload ∷ []) (text ++ frame_of told) after

-- The replies to all frames of the bytes, and one 71 behind them where a length over the limit
-- comes next.
pub record LedgerReplies (start : Ledger) (bytes text : List ℕ) (end : Ledger) : Type 0 where
  pub out : List ℕ
  pub replies : RepliesTo start (frames_of bytes).payloads out end
  pub last : EndsWith (front (frames_of bytes).rest) out text

-- ---- the ledger of a desk and a runner

-- the reports that a runner holds are noted, in order of number
abbrev pub AreNoted : Ledger → List (ℕ × Report) → Ledger → Type 0
AreNoted desk [] ledger = ledger ≡ desk
AreNoted desk (held ∷ reports) ledger =
    (next : Ledger) × Notes desk held.0 (Ok held.1) next × AreNoted next reports ledger

-- From a desk and reports to others the bytes are answered, and what was written are the replies
-- over their ledgers. The number is that of the frames, and nothing more is read for a reason;
-- `over` says that the reader has no more.
pub record WritesReplies (desk : Ledger) (held : List (ℕ × Report)) (bytes before : List ℕ)
    (over : Type 0) (end : Ledger) (left : List (ℕ × Report)) (number : ℕ) (after : List ℕ) :
    Type 0 where
  pub start : Ledger
  pub noted : AreNoted desk held start
  pub last : Ledger
  pub noted_last : AreNoted end left last
  pub text : List ℕ
  pub replies : LedgerReplies start bytes text last
  pub written : after ≡ before ++ text
  pub counts : number ≡ min (length (frames_of bytes).payloads) (2 ^ 64 - 1)
  pub stops : StopsAt (front (frames_of bytes).rest) over bytes

-- bytes begin a text: the replies to some payloads, or those to all of them and one 71 behind them,
-- where a length over the limit comes next
abbrev pub IsBeginning : List ℕ → List (List ℕ) → List ℕ → List ℕ → Type 0
IsBeginning bytes further text part =
    (more : List ℕ) × ((part ++ more ≡ text)
    ⊎ ((front (frames_of bytes).rest ≡ too_large) × (further ≡ [])
    × (part ++ more ≡ text ++ too_large_reply)))

-- From a desk and reports to others the first payloads of the bytes are answered, and what was
-- written is a beginning of the replies over their ledgers.
pub record BeginsReplies (desk : Ledger) (held : List (ℕ × Report)) (bytes before : List ℕ)
    (end : Ledger) (left : List (ℕ × Report)) (after : List ℕ) : Type 0 where
  pub start : Ledger
  pub noted : AreNoted desk held start
  pub last : Ledger
  pub noted_last : AreNoted end left last
  pub payloads : List (List ℕ)
  pub further : List (List ℕ)
  pub first : (frames_of bytes).payloads ≡ payloads ++ further
  pub text : List ℕ
  pub replies : RepliesTo start payloads text last
  pub part : List ℕ
  pub written : after ≡ before ++ part
  pub begins : IsBeginning bytes further text part
