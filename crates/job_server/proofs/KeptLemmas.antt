-- The last job of a desk that forgets.
use Rattle.std.proofs.Common.{◌≡◌, ℕ, List, length, refl, sym, ◌∙◌, ap, Option, Some, None, Result, Ok, Err}
use Rattle.refusal.specs.declared.NoMemory.{NoMemory}
use Rattle.accounts.specs.declared.keep_limits.KeepLimits.{KeepLimits}
use Rattle.accounts.specs.declared.jobs.JobStanding.{JobStanding}
use Rattle.accounts.specs.Limits.{bytes_in}
use Rattle.accounts.proofs.LastJob.{last_left}
use Rattle.accounts.specs.Ledgers.{Ledger, KeepsWithin}
use Rattle.sessions.specs.Grammar.{Asked, grant, account, submit, status, result}
use Rattle.sessions.specs.Replies.{frame_or_refusal, submit_data}
use Rattle.streams.specs.declared.submit_refusal.SubmitRefusal.{SubmitRefusal}
use Rattle.streams.specs.declared.submit_refusal.SubmitRefusal.TheVariants.{NotTaken, NotStarted}
use Rattle.streams.specs.Refusing.{LastStands, SaysRefusal, TellsRefusal}

-- a last job without a report is as it was
keeps_last : (keep : KeepLimits) (old new : Ledger) (standing : JobStanding) → bytes_in standing ≡ 0 → KeepsWithin keep old new → LastStands old standing →
    LastStands new standing × (length new.jobs ≡ length old.jobs)
keeps_last keep old new standing none keeps last =
    let to = keeps.1 in
    let kept = last_left keep old.jobs keeps.0 new.jobs to.forgets.jobs to.within last.front last.entry last.last (ap bytes_in last.stands ∙ none) in
    (record { front = kept.0; entry = last.entry; last = kept.1; stands = last.stands }, to.forgets.jobs.count)

-- what is told of a submit is so once the desk has forgotten
says_kept : (keep : KeepLimits) (old new : Ledger) (refusal : Option SubmitRefusal) (reply : List ℕ) → KeepsWithin keep old new → SaysRefusal old refusal reply →
    SaysRefusal new refusal reply
says_kept keep old new None reply keeps says =
    let kept = keeps_last keep old new _ refl keeps says.0 in
    (kept.0, says.1 ∙ ap (λ n. frame_or_refusal (submit_data n)) (sym kept.1))
says_kept keep old new (Some (NotStarted number code)) reply keeps says =
    let kept = keeps_last keep old new _ refl keeps says.0 in (kept.0, says.1 ∙ sym kept.1, says.2)
says_kept keep old new (Some (NotTaken code)) reply keeps says = says

pub tells_kept : (keep : KeepLimits) (old new : Ledger) (asked : Result Asked ℕ) (refusal : Option SubmitRefusal) (reply : Result (List ℕ) NoMemory) →
    KeepsWithin keep old new → TellsRefusal old asked refusal reply → TellsRefusal new asked refusal reply
tells_kept keep old new (Ok (submit name order)) refusal (Ok frame) keeps tells = says_kept keep old new refusal frame keeps tells
tells_kept keep old new (Ok (submit name order)) refusal (Err e) keeps tells = tells
tells_kept keep old new (Ok (grant name amount)) refusal reply keeps tells = tells
tells_kept keep old new (Ok (account name)) refusal reply keeps tells = tells
tells_kept keep old new (Ok (status number)) refusal reply keeps tells = tells
tells_kept keep old new (Ok (result number)) refusal reply keeps tells = tells
tells_kept keep old new (Err code) refusal reply keeps tells = tells
