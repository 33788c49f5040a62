-- Replies whose frames may still have to be written.
use Rattle.std.specs.Prelude.{◌≡◌, ℕ, List, Option, Some, None, Ok}
use Rattle.sessions.specs.Replies.{frame_of, frame_or_refusal}
use Rattle.sessions.specs.declared.reply.Reply.{Reply}
use Rattle.sessions.specs.declared.reply.Reply.TheVariants as reply
use Rattle.streams.specs.Answering.{report_told}
use Rattle.streams.specs.declared.pending_reply.ReplySource.{ReplySource}
use Rattle.streams.specs.declared.pending_reply.ReplySource.TheVariants.{Frame, Report}

-- the bytes of the frame that this is made into
abbrev pub bytes_of_source : ReplySource → List ℕ
bytes_of_source (Frame frame) = frame.items
bytes_of_source (Report report) = frame_or_refusal (report_told (Ok report))

-- the number of the refusal that a reply is, if it is one
abbrev pub code_of_reply : Reply → Option ℕ
code_of_reply (reply.Refused code program slot) = Some code
code_of_reply (reply.Account balance granted opened spent) = None
code_of_reply (reply.Submit job) = None
code_of_reply (reply.Status complete returned spent) = None
code_of_reply (reply.Result buffer returned spent tasks) = None
code_of_reply (reply.Jobs count jobs keys) = None
code_of_reply (reply.Server totals) = None
code_of_reply (reply.Play buffer complete held returned spent used) = None

-- a reply has these bytes as its frame, and is a refusal by this number, or none
abbrev pub TellsCode : List ℕ → Option ℕ → Type 0
TellsCode bytes code = (told : Reply) × (bytes ≡ frame_of told) × (code ≡ code_of_reply told)
