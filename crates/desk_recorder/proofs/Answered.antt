-- What was answered, with the records of what it changed.
use Rattle.std.proofs.Common.{◌≡◌, ◌⊎◌, ℕ, List, [], length, false, refl, sym, ap, subst, ◌∙◌, inl, inr, IfOk, OnErr, Option, Some, None, Result, Ok, Err}
use Rattle.refusal.specs.declared.NoMemory.{NoMemory}
use Rattle.credit_book.specs.declared.book.Report.{Report}
use Rattle.credit_book.specs.declared.board.Progress.{Progress}
use Rattle.job_core.specs.Admitted.{AdmittedJob}
use Rattle.accounts.specs.declared.keep_limits.KeepLimits.{KeepLimits}
use Rattle.accounts.specs.declared.jobs.JobStanding.{JobStanding}
use Rattle.accounts.specs.Limits.{bytes_in}
use Rattle.accounts.proofs.LastJob.{last_left}
use Rattle.accounts.specs.Ledgers.{Ledger, KeepsWithin}
use Rattle.sessions.specs.Grammar.{Asked, grant, account, submit, status, result}
use Rattle.sessions.specs.Replies.{frame_of, frame_or_refusal, submit_data}
use Rattle.streams.specs.declared.submit_refusal.SubmitRefusal.{SubmitRefusal}
use Rattle.streams.specs.declared.submit_refusal.SubmitRefusal.TheVariants.{NotTaken, NotStarted}
use Rattle.streams.specs.Answering.{Answers, Framed, Replies}
use Rattle.streams.specs.Passing.{Passes}
use Rattle.streams.specs.Refusing.{LastStands, SaysRefusal, TellsRefusal}
use Rattle.desk_recorder.specs.Recording.{IsRecorded, RecordsMore}
use Rattle.desk_recorder.specs.RecordedAnswers.{AnswersRecorded}
use Rattle.desk_recorder.specs.declared.recorder.ChangeRecorder.{ChangeRecorder}
use Rattle.desk_recorder.proofs.Composed.{records_then}

-- a last job without a report is as it was
keeps_last : (keep : KeepLimits) (old new : Ledger) (standing : JobStanding) → bytes_in standing ≡ 0 → KeepsWithin keep old new → LastStands old standing →
    LastStands new standing × (length new.jobs ≡ length old.jobs)
keeps_last keep old new standing none keeps last =
    let to = keeps.1 in
    let kept = last_left keep old.jobs keeps.0 new.jobs to.forgets.jobs to.within last.front last.entry last.last (ap bytes_in last.stands ∙ none) in
    (record { front = kept.0; entry = last.entry; last = kept.1; stands = last.stands }, to.forgets.jobs.count)

-- what is told of a submit is so once the desk has forgotten
says_kept : (keep : KeepLimits) (old new : Ledger) (refusal : Option SubmitRefusal) (reply : List ℕ) → KeepsWithin keep old new → SaysRefusal old refusal reply →
    SaysRefusal new refusal reply
says_kept keep old new None reply keeps says =
    let kept = keeps_last keep old new _ refl keeps says.0 in
    (kept.0, says.1 ∙ ap (λ n. frame_or_refusal (submit_data n)) (sym kept.1))
says_kept keep old new (Some (NotStarted number code)) reply keeps says =
    let kept = keeps_last keep old new _ refl keeps says.0 in (kept.0, says.1 ∙ sym kept.1, says.2)
says_kept keep old new (Some (NotTaken code)) reply keeps says = says

tells_kept : (keep : KeepLimits) (old new : Ledger) (asked : Result Asked ℕ) (refusal : Option SubmitRefusal) (reply : Result (List ℕ) NoMemory) →
    KeepsWithin keep old new → TellsRefusal old asked refusal reply → TellsRefusal new asked refusal reply
tells_kept keep old new (Ok (submit name order)) refusal (Ok frame) keeps tells = says_kept keep old new refusal frame keeps tells
tells_kept keep old new (Ok (submit name order)) refusal (Err e) keeps tells = tells
tells_kept keep old new (Ok (grant name amount)) refusal reply keeps tells = tells
tells_kept keep old new (Ok (account name)) refusal reply keeps tells = tells
tells_kept keep old new (Ok (status number)) refusal reply keeps tells = tells
tells_kept keep old new (Ok (result number)) refusal reply keeps tells = tells
tells_kept keep old new (Err code) refusal reply keeps tells = tells

-- and where nothing is forgotten
pub tells_kept_or_same : (keep : KeepLimits) (old new : Ledger) (other : Type 0) (asked : Result Asked ℕ) (refusal : Option SubmitRefusal) (reply : Result (List ℕ) NoMemory) →
    (KeepsWithin keep old new ⊎ ((new ≡ old) × other)) → TellsRefusal old asked refusal reply → TellsRefusal new asked refusal reply
tells_kept_or_same keep old new other asked refusal reply (inl keeps) tells = tells_kept keep old new asked refusal reply keeps tells
tells_kept_or_same keep old new other asked refusal reply (inr same) tells = subst (λ (l : Ledger). TellsRefusal l asked refusal reply) (sym same.0) tells

-- a recorder that notes no change yet, and from then on
module _ {R Q : Type 0} (starts : R → ℕ → AdmittedJob → Result (Unit {0}) ℕ → R → Type 0) (looks : R → ℕ → Progress → R → Type 0)
    (takes : R → Option (ℕ × Result Report ℕ) → R → Type 0) (taken : Q → List ℕ) (failed : Q → Type 0) (keep : KeepLimits) (query : Result Asked ℕ)
    (old passed_desk mid new : Ledger) (runner rest left : R) (before begun passed answered after : ChangeRecorder Q)
    (queue : begun.queue ≡ before.queue) (stopped : begun.is_stopped ≡ before.is_stopped) (unchanged : begun.has_changed ≡ false)
    (passes : Passes takes old runner passed_desk rest) (first : IsRecorded taken failed begun passed old passed_desk [])
    (second : IsRecorded taken failed passed answered passed_desk mid [])
    (kept : KeepsWithin keep mid new ⊎ ((new ≡ mid) × (answered.has_changed ≡ false))) (third : IsRecorded taken failed answered after mid new []) where
  replied : IsRecorded taken failed begun answered old mid []
  replied = records_then taken failed begun passed answered old passed_desk mid first second

  all : IsRecorded taken failed begun after old new []
  all = records_then taken failed begun answered after old mid new replied third

  kept_so : (KeepsWithin keep mid new ⊎ ((new ≡ mid) × (answered.has_changed ≡ false))) → KeepsWithin keep mid new ⊎ ((new ≡ mid) × (mid ≡ old))
  kept_so (inl keeps) = inl keeps
  kept_so (inr same) = inr (same.0, (replied.unchanged same.1).1)

  answered_so : (reply : List ℕ) → Answers starts looks takes old runner query reply mid left →
      AnswersRecorded starts looks takes taken failed keep old runner before query reply new left after
  answered_so reply answers = record {
    mid = mid;
    answered = answers;
    kept = kept_so kept;
    going = λ on. sym stopped ∙ all.going on;
    told = λ had. all.told (λ on. subst failed (sym queue) (had (sym stopped ∙ on)));
    records = λ on. subst (λ (q : Q). RecordsMore taken q after.queue old new []) queue (all.records on);
  }

  pub recorded_ok : (r : Result (List ℕ) NoMemory) → Framed r (λ told. Replies starts looks passed_desk rest query told mid left) →
      IfOk r (λ f. AnswersRecorded starts looks takes taken failed keep old runner before query f new left after)
  recorded_ok (Ok f) framed =
      answered_so f (record { mid = passed_desk; rest = rest; passed = passes; told = framed.told; replies = framed.was; frame = framed.frame })
  recorded_ok (Err e) framed = tt

  pub recorded_err : (r : Result (List ℕ) NoMemory) → Framed r (λ told. Replies starts looks passed_desk rest query told mid left) →
      OnErr r ((reply : List ℕ) × AnswersRecorded starts looks takes taken failed keep old runner before query reply new left after)
  recorded_err (Ok f) framed = tt
  recorded_err (Err e) framed = (
    frame_of framed.told,
    answered_so (frame_of framed.told) (record { mid = passed_desk; rest = rest; passed = passes; told = framed.told; replies = framed.was; frame = refl }),
  )
