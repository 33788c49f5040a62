-- Replies whose frames are written later.
use Rattle.std.proofs.Common.{◌≡◌, ℕ, List, refl, subst, None, Result, Ok, Err, OnErr, IfOk, Vec}
use Rattle.std.specs.declared.alloc.Global.{Global}
use Rattle.refusal.specs.declared.NoMemory.{NoMemory}
use Rattle.credit_book.specs.declared.book.Report.{Report}
use Rattle.accounts.specs.declared.fault.DeskFault.{DeskFault}
use Rattle.accounts.specs.Faults.{desk_code}
use Rattle.sessions.specs.Replies.{reply_data}
use Rattle.sessions.specs.declared.reply.Reply.{Reply}
use Rattle.sessions.specs.declared.reply.Reply.TheVariants as reply
use Rattle.streams.specs.Answering.{report_told}

-- the reply that tells a report, or why there is none
abbrev pub report_reply : Result Report DeskFault → Reply
report_reply (Ok report) = reply.Result (record { ref_ptr = (0, 0); now = report.buffer.items }) report.returned report.spent (record { ref_ptr = (0, 0); now = report.tasks.items })
report_reply (Err fault) = reply.Refused (desk_code fault) None None

pub tells_report : (told : Result Report DeskFault) → (r : Reply) × (reply_data r ≡ report_told told)
tells_report (Ok report) = (report_reply (Ok report), refl)
tells_report (Err fault) = (report_reply (Err fault), refl)

-- a frame that is written is the reply's
pub written_ok : (P : List ℕ → Type 0) (reply : Result (List ℕ) NoMemory) (r : Result (Vec ℕ Global) NoMemory) → IfOk r (λ f. reply ≡ Ok f.items) →
    IfOk reply P → IfOk r (λ f. P f.items)
written_ok P reply (Ok f) is ok = subst (λ (x : Result (List ℕ) NoMemory). IfOk x P) is ok
written_ok P reply (Err e) is ok = tt

-- one that isn't has a reply too
pub written_err : (P : List ℕ → Type 0) (reply : Result (List ℕ) NoMemory) (r : Result (Vec ℕ Global) NoMemory) → IfOk reply P →
    OnErr reply ((bytes : List ℕ) × P bytes) → OnErr r ((bytes : List ℕ) × P bytes)
written_err P reply (Ok f) ok err = tt
written_err P (Ok bytes) (Err e) ok err = (bytes, ok)
written_err P (Err x) (Err e) ok err = err
