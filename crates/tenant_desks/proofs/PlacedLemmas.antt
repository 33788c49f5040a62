-- A runner for one desk, which takes no ends, answers at that desk.
use Rattle.std.proofs.Common.{◌≡◌, ℕ, List, Result, Ok, Err, IfOk, OnErr, refl, ap, subst, ◌∙◌, inl, inr}
use Rattle.refusal.specs.declared.NoMemory.{NoMemory}
use Rattle.credit_book.specs.declared.board.Progress.{Progress}
use Rattle.job_core.specs.declared.admission.ProgramBytes.{ProgramBytes}
use Rattle.job_core.specs.Admitted.{AdmittedJob}
use Rattle.accounts.specs.declared.keep_limits.KeepLimits.{KeepLimits}
use Rattle.accounts.specs.Ledgers.{Ledger, KeepsWithin}
use Rattle.sessions.specs.Grammar.{Asked, grant, account, submit, status, result}
use Rattle.sessions.specs.Replies.{reply_data}
use Rattle.sessions.specs.declared.reply.Reply.{Reply}
use Rattle.streams.specs.Answering.{Answers, Replies, Submits}
use Rattle.streams.specs.Passing.{Taken, none_yet, one_more, Passes}
use Rattle.tenant_desks.specs.declared.placed_runner.PlacedRunner.{PlacedRunner}
use Rattle.tenant_desks.specs.PlacedRunners.{starts_placed, looks_placed, takes_placed}
use Rattle.tenant_desks.specs.Answering.{AnswersAlone, for_place}

-- ---- no end is taken

none_taken : {R : Type 0} (d : Ledger) (r : PlacedRunner R) (e : Ledger) (s : PlacedRunner R) → Taken takes_placed d r e s → (e ≡ d) × (s ≡ r)
none_taken d r e s none_yet = (refl, refl)
none_taken d r e s (one_more d1 r1 number outcome s1 e1 before step notes) =
    let clash = step.0 in cc

none_passed : {R : Type 0} (d : Ledger) (r : PlacedRunner R) (e : Ledger) (s : PlacedRunner R) → Passes takes_placed d r e s → (e ≡ d) × (s ≡ r)
none_passed d r e s p =
    let t = none_taken d r e p.last p.taken in (t.0, p.none_left.1 ∙ t.1)

module _ {R : Type 0} (starts : R → ℕ → AdmittedJob → Result (Unit {0}) ℕ → R → Type 0) (looks : R → ℕ → Progress → R → Type 0) where
  -- what a desk and its runner answer is answered alone
  answered_alone : (keep : KeepLimits) (desk : Ledger) (r : PlacedRunner R) (query : Result Asked ℕ) (reply : List ℕ) (mid : Ledger) (s : PlacedRunner R) (after : Ledger)
      → Answers (starts_placed starts) (looks_placed looks) takes_placed desk r query reply mid s → KeepsWithin keep mid after → AnswersAlone (starts_placed starts) (looks_placed looks) keep r s query reply desk after
  answered_alone keep desk r query reply mid s after a keeps =
      let same = none_passed desk r a.mid a.rest a.passed in
      let P : Ledger × PlacedRunner R → Type 0 = λ t. Replies (starts_placed starts) (looks_placed looks) t.0 t.1 query (reply_data a.told) mid s in
      record { mid = mid; told = a.told; replies = subst P (λ k. (same.0 k, same.1 k)) a.replies; frame = a.frame; keeps = keeps }

  pub alone_ok : (keep : KeepLimits) (desk : Ledger) (r : PlacedRunner R) (query : Result Asked ℕ) (mid : Ledger) (s : PlacedRunner R) (after : Ledger) (told : Result (List ℕ) NoMemory)
      → IfOk told (λ reply. Answers (starts_placed starts) (looks_placed looks) takes_placed desk r query reply mid s) → KeepsWithin keep mid after
      → IfOk told (λ reply. AnswersAlone (starts_placed starts) (looks_placed looks) keep r s query reply desk after)
  alone_ok keep desk r query mid s after (Ok reply) a keeps = answered_alone keep desk r query reply mid s after a keeps
  alone_ok keep desk r query mid s after (Err e) a keeps = a

  pub alone_err : (keep : KeepLimits) (desk : Ledger) (r : PlacedRunner R) (query : Result Asked ℕ) (mid : Ledger) (s : PlacedRunner R) (after : Ledger) (told : Result (List ℕ) NoMemory)
      → OnErr told ((reply : List ℕ) × Answers (starts_placed starts) (looks_placed looks) takes_placed desk r query reply mid s) → KeepsWithin keep mid after
      → OnErr told ((reply : List ℕ) × AnswersAlone (starts_placed starts) (looks_placed looks) keep r s query reply desk after)
  alone_err keep desk r query mid s after (Ok reply) a keeps = a
  alone_err keep desk r query mid s after (Err e) a keeps = (a.0, answered_alone keep desk r query a.0 mid s after a.1 keeps)

  -- ---- the place stays

  submits_stay : (desk : Ledger) (r : PlacedRunner R) (name : List ℕ) (programs : List ProgramBytes) (credit : ℕ) (buffer : List ℕ) (told : Reply) (after : Ledger) (s : PlacedRunner R)
      → Submits (starts_placed starts) desk r name programs credit buffer (reply_data told) after s → s.place ≡ r.place
  submits_stay desk r name programs credit buffer told after s (inl t) = t.starts_job.1
  submits_stay desk r name programs credit buffer told after s (inr n) = ap (λ (x : PlacedRunner R). x.place) n.same_runner

  replies_stay : (desk : Ledger) (r : PlacedRunner R) (query : Result Asked ℕ) (told : Reply) (after : Ledger) (s : PlacedRunner R)
      → Replies (starts_placed starts) (looks_placed looks) desk r query (reply_data told) after s → s.place ≡ r.place
  unfolding Replies
  replies_stay desk r (Err code) told after s t = ap (λ (x : PlacedRunner R). x.place) t.2
  replies_stay desk r (Ok (grant name amount)) told after s t = ap (λ (x : PlacedRunner R). x.place) t.1
  replies_stay desk r (Ok (account name)) told after s t = ap (λ (x : PlacedRunner R). x.place) t.2
  replies_stay desk r (Ok (submit name order)) told after s t = submits_stay desk r name t.0 order.credit order.buffer told after s t.2
  replies_stay desk r (Ok (status number)) told after s t = t.1.1
  replies_stay desk r (Ok (result number)) told after s t = ap (λ (x : PlacedRunner R). x.place) t.2

  -- so that what is left is a runner for the same place
  pub at_its_place : (keep : KeepLimits) (place : ℕ) (runner : R) (s : PlacedRunner R) (query : Result Asked ℕ) (reply : List ℕ) (before after : Ledger)
      → AnswersAlone (starts_placed starts) (looks_placed looks) keep (for_place place runner) s query reply before after → AnswersAlone (starts_placed starts) (looks_placed looks) keep (for_place place runner) (for_place place s.runner) query reply before after
  at_its_place keep place runner s query reply before after a =
      let stays = replies_stay before (for_place place runner) query a.told a.mid s a.replies in
      subst (λ (p : ℕ). AnswersAlone (starts_placed starts) (looks_placed looks) keep (for_place place runner) (for_place p s.runner) query reply before after) stays a
