-- The answer at one desk, and at one of many.
use Rattle.std.proofs.Common.{◌≡◌, ◌⊎◌, ℕ, false, List, [], ◌++◌, append-nil, length, slice_get, slice_set, Option, Some, Result, Ok, Err, IfOk, OnErr, refl, sym, ap, subst, ◌∙◌, inl, inr}
use Rattle.refusal.specs.declared.NoMemory.{NoMemory}
use Rattle.credit_book.specs.declared.book.Report.{Report}
use Rattle.credit_book.specs.declared.board.Progress.{Progress}
use Rattle.job_core.specs.Admitted.{AdmittedJob}
use Rattle.accounts.specs.declared.keep_limits.KeepLimits.{KeepLimits}
use Rattle.accounts.specs.Ledgers.{Ledger, KeepsWithin}
use Rattle.sessions.specs.Grammar.{Asked}
use Rattle.sessions.specs.Replies.{frame_of}
use Rattle.streams.specs.Answering.{Framed, Replies}
use Rattle.desk_recorder.specs.Recording.{IsRecorded, RecordsMore, keyed_taken}
use Rattle.desk_recorder.specs.declared.recorder.ChangeRecorder.{ChangeRecorder}
use Rattle.desk_recorder.proofs.Composed.{keyed_behind, records_both, records_keyed}
use Rattle.sessions.specs.declared.job_key.KeyedJob.{KeyedJob}
use Rattle.tenant_desks.specs.declared.placed_runner.PlacedRunner.{PlacedRunner}
use Rattle.tenant_desks.specs.PlacedRunners.{starts_placed, looks_placed}
use Rattle.tenant_desks.specs.Answering.{AnswersAlone, DeskAnswer, PassesEnds, for_place, refusal_frame}
use Rattle.tenant_desks.proofs.AmongLemmas.{at_desk, nowhere}
use Rattle.tenant_recorder.specs.Recorders.{TakesRecords}
use Rattle.tenant_recorder.proofs.Forgotten.{keeps_again}

-- the recorder notes what the answer changes, and then what is forgotten, and begins anew
module _ {Q : Type 0} (taken : Q → List ℕ) (failed : Q → Type 0) (keep : KeepLimits) (old mid new : Ledger) (before replied kept after : ChangeRecorder Q)
    (ks : List KeyedJob) (first : IsRecorded taken failed before replied old mid ks) (keeps : KeepsWithin keep mid new ⊎ ((new ≡ mid) × (replied.has_changed ≡ false)))
    (second : IsRecorded taken failed replied kept mid new []) (queue : after.queue ≡ kept.queue) (stopped : after.is_stopped ≡ kept.is_stopped) where
  pub takes_all : TakesRecords taken failed before after old new ks
  takes_all =
      let all = records_keyed taken failed before kept old new ks (ks ++ []) (sym (append-nil ks)) (records_both taken failed before replied kept old mid new ks [] first second) in
      record {
        going = λ on. all.going (sym stopped ∙ on);
        told = λ had on. subst failed (sym queue) (all.told had (sym stopped ∙ on));
        records = λ on. subst (λ (q : Q). RecordsMore taken before.queue q old new ks) (sym queue) (all.records (sym stopped ∙ on));
      }

  pub keeps_last : (before.has_changed ≡ false → KeepsWithin keep old old) → KeepsWithin keep mid new
  keeps_last forgot = by keeps
    where
      by : KeepsWithin keep mid new ⊎ ((new ≡ mid) × (replied.has_changed ≡ false)) → KeepsWithin keep mid new
      by (inl k) = k
      by (inr t) =
          let was = first.unchanged t.1 in
          let K : Ledger × Ledger → Type 0 = λ x. KeepsWithin keep x.0 x.1 in
          let here : KeepsWithin keep mid mid = subst (λ (x : Ledger). KeepsWithin keep x x) (sym was.1) (forgot was.0) in
          subst (KeepsWithin keep mid) (sym t.0) here

  pub keeps_so : (before.has_changed ≡ false → KeepsWithin keep old old) → KeepsWithin keep new new
  keeps_so forgot = keeps_again keep mid new (keeps_last forgot)

-- ---- the key of a job that was taken

-- a desk that forgets has as many jobs
pub kept_count : (keep : KeepLimits) (mid new : Ledger) (other : Type 0) → KeepsWithin keep mid new ⊎ ((new ≡ mid) × other) → length new.jobs ≡ length mid.jobs
kept_count keep mid new other (inl keeps) = keeps.1.forgets.jobs.count
kept_count keep mid new other (inr same) = ap (λ (l : Ledger). length l.jobs) same.0

pub takes_keyed : {Q : Type 0} (taken : Q → List ℕ) (failed : Q → Type 0) (p q : ChangeRecorder Q) (old mid new : Ledger) (key : Option (List ℕ)) → length new.jobs ≡ length mid.jobs
    → TakesRecords taken failed p q old new (keyed_taken key old mid) → TakesRecords taken failed p q old new (keyed_taken key old new)
takes_keyed taken failed p q old mid new key same takes = subst (λ (ks : List KeyedJob). TakesRecords taken failed p q old new ks) (sym (keyed_behind key old mid new same)) takes

-- what is replied and then forgotten is an answer of a desk alone
module _ {P : Type 0} (starts : P → ℕ → AdmittedJob → Result (Unit {0}) ℕ → P → Type 0) (looks : P → ℕ → Progress → P → Type 0) (keep : KeepLimits) (query : Result Asked ℕ)
    (old mid new : Ledger) (runner left : P) (forgot : Type 0) where
  pub alone_ok : (r : Result (List ℕ) NoMemory) → Framed r (λ told. Replies starts looks old runner query told mid left) → (forgot → KeepsWithin keep mid new)
      → IfOk r (λ f. forgot → AnswersAlone starts looks keep runner left query f old new)
  alone_ok (Ok f) framed keeps = λ had. record { mid = mid; told = framed.told; replies = framed.was; frame = framed.frame; keeps = keeps had }
  alone_ok (Err e) framed keeps = tt

  pub alone_err : (r : Result (List ℕ) NoMemory) → Framed r (λ told. Replies starts looks old runner query told mid left) → (forgot → KeepsWithin keep mid new)
      → OnErr r ((reply : List ℕ) × (forgot → AnswersAlone starts looks keep runner left query reply old new))
  alone_err (Ok f) framed keeps = tt
  alone_err (Err e) framed keeps =
      (frame_of framed.told, λ had. record { mid = mid; told = framed.told; replies = framed.was; frame = refl; keeps = keeps had })

-- one of many desks answers, or none does
module _ {R : Type 0} (starts : R → ℕ → AdmittedJob → Result (Unit {0}) ℕ → R → Type 0) (looks : R → ℕ → Progress → R → Type 0) (takes : R → Option (ℕ × Result Report ℕ) → R → Type 0)
    (keep : KeepLimits) (to : Result ℕ ℕ) (query : Result Asked ℕ) (desks : List Ledger) (runner : R) (mid : List Ledger) (rest : R) (passed : PassesEnds takes desks runner mid rest) (had : Type 0) where
  pub nowhere_ok : (code : ℕ) (told : Result (List ℕ) NoMemory) → to ≡ Err code → IfOk told (λ frame. frame ≡ refusal_frame code)
      → IfOk told (λ reply. had → DeskAnswer starts looks takes keep to query desks runner reply mid rest)
  nowhere_ok code (Ok frame) goes is = λ forgot.
      subst (λ (f : List ℕ). DeskAnswer starts looks takes keep to query desks runner f mid rest) (sym is) (nowhere starts looks takes keep code to query desks runner mid rest goes passed)
  nowhere_ok code (Err e) goes is = tt

  pub nowhere_err : (code : ℕ) (told : Result (List ℕ) NoMemory) → to ≡ Err code
      → OnErr told ((reply : List ℕ) × (had → DeskAnswer starts looks takes keep to query desks runner reply mid rest))
  nowhere_err code (Ok frame) goes = tt
  nowhere_err code (Err e) goes = (refusal_frame code, λ forgot. nowhere starts looks takes keep code to query desks runner mid rest goes passed)

  pub there_ok : (forgot : Type 0) (place : ℕ) (before after : Ledger) (s : PlacedRunner R) (told : Result (List ℕ) NoMemory) → to ≡ Ok place → slice_get mid place ≡ Some before → (had → forgot)
      → IfOk told (λ reply. forgot → AnswersAlone (starts_placed starts) (looks_placed looks) keep (for_place place rest) s query reply before after)
      → IfOk told (λ reply. had → DeskAnswer starts looks takes keep to query desks runner reply (slice_set mid place after) s.runner)
  there_ok forgot place before after s (Ok reply) goes there first alone = λ had_so. at_desk starts looks takes keep place to query desks runner mid rest before after s reply goes passed there (alone (first had_so))
  there_ok forgot place before after s (Err e) goes there first alone = tt

  pub there_err : (forgot : Type 0) (place : ℕ) (before after : Ledger) (s : PlacedRunner R) (told : Result (List ℕ) NoMemory) → to ≡ Ok place → slice_get mid place ≡ Some before → (had → forgot)
      → OnErr told ((reply : List ℕ) × (forgot → AnswersAlone (starts_placed starts) (looks_placed looks) keep (for_place place rest) s query reply before after))
      → OnErr told ((reply : List ℕ) × (had → DeskAnswer starts looks takes keep to query desks runner reply (slice_set mid place after) s.runner))
  there_err forgot place before after s (Ok reply) goes there first alone = tt
  there_err forgot place before after s (Err e) goes there first alone =
      (alone.0, λ had_so. at_desk starts looks takes keep place to query desks runner mid rest before after s alone.0 goes passed there (alone.1 (first had_so)))
