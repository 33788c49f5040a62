-- What the start of a job came to, in an answer at a desk.
use Rattle.std.proofs.Common.{ℕ, List, Result, Ok, Err, refl, inl, inr}
use Rattle.credit_book.specs.declared.board.Progress.{Progress}
use Rattle.job_core.specs.declared.admission.ProgramBytes.{ProgramBytes}
use Rattle.job_core.specs.Admitted.{AdmittedJob}
use Rattle.accounts.specs.declared.keep_limits.KeepLimits.{KeepLimits}
use Rattle.accounts.specs.Ledgers.{Ledger}
use Rattle.sessions.specs.Grammar.{Asked, grant, account, submit, status, result}
use Rattle.sessions.specs.Replies.{reply_data}
use Rattle.sessions.specs.declared.reply.Reply.{Reply}
use Rattle.streams.specs.Answering.{Replies, Submits}
use Rattle.tenant_desks.specs.Answering.{AnswersAlone}
use Rattle.tenant_desks.specs.Alone.{starts_to}

module _ {P : Type 0} (starts : P → ℕ → AdmittedJob → Result (Unit {0}) ℕ → P → Type 0) (looks : P → ℕ → Progress → P → Type 0) where
  submits_to : (desk : Ledger) (r : P) (name : List ℕ) (programs : List ProgramBytes) (credit : ℕ) (buffer : List ℕ) (told : Reply) (after : Ledger) (s : P)
      → Submits starts desk r name programs credit buffer (reply_data told) after s
      → (started : Result (Unit {0}) ℕ) × Submits (starts_to started starts) desk r name programs credit buffer (reply_data told) after s
  submits_to desk r name programs credit buffer told after s (inl t) = (
    t.outcome,
    inl (record {
      mid = t.mid;
      takes = t.takes;
      job = t.job;
      admitted = t.admitted;
      outcome = t.outcome;
      starts_job = (t.starts_job, refl);
      settles = t.settles;
      tells = t.tells;
    }),
  )
  submits_to desk r name programs credit buffer told after s (inr n) = (Ok tt, inr n)

  replies_to : (desk : Ledger) (r : P) (query : Result Asked ℕ) (told : Reply) (after : Ledger) (s : P) → Replies starts looks desk r query (reply_data told) after s
      → (started : Result (Unit {0}) ℕ) × Replies (starts_to started starts) looks desk r query (reply_data told) after s
  unfolding Replies
  replies_to desk r (Err code) told after s t = (Ok tt, t)
  replies_to desk r (Ok (grant name amount)) told after s t = (Ok tt, t)
  replies_to desk r (Ok (account name)) told after s t = (Ok tt, t)
  replies_to desk r (Ok (submit name order)) told after s t =
      let u = submits_to desk r name t.0 order.credit order.buffer told after s t.2 in (u.0, (t.0, t.1, u.1))
  replies_to desk r (Ok (status number)) told after s t = (Ok tt, t)
  replies_to desk r (Ok (result number)) told after s t = (Ok tt, t)

  pub answered_to : (keep : KeepLimits) (r s : P) (query : Result Asked ℕ) (reply : List ℕ) (before after : Ledger) → AnswersAlone starts looks keep r s query reply before after
      → (started : Result (Unit {0}) ℕ) × AnswersAlone (starts_to started starts) looks keep r s query reply before after
  answered_to keep r s query reply before after a =
      let t = replies_to before r query a.told a.mid s a.replies in
      (t.0, record { mid = a.mid; told = a.told; replies = t.1; frame = a.frame; keeps = a.keeps })
