-- Answers of the handler.
use Rattle.std.proofs.Common.{◌≡◌, ℕ, List, [], length, map, string_bytes, String, Option, Result, Ok, Err, IfOk, OnErr, refl, subst}
use Rattle.std.specs.declared.alloc.Global.{Global}
use Rattle.refusal.specs.declared.NoMemory.{NoMemory}
use Rattle.credit_book.specs.declared.book.Report.{Report}
use Rattle.credit_book.specs.declared.board.Progress.{Progress}
use Rattle.job_core.specs.Admitted.{AdmittedJob}
use Rattle.accounts.specs.declared.keep_limits.KeepLimits.{KeepLimits}
use Rattle.accounts.specs.Ledgers.{Ledger}
use Rattle.shared_desk.specs.Histories.{Query}
use Rattle.desk_recorder.specs.declared.recorder.ChangeRecorder.{ChangeRecorder}
use Rattle.tenant_desks.specs.Routing.{desk_for}
use Rattle.tenant_desks.specs.Tenancies.{Tenancy}
use Rattle.tenant_desks.specs.Answering.{DeskAnswer}
use Rattle.tenant_recorder.specs.Recorders.{AreRecorded, HaveForgotten}
use Rattle.tenant_recorder.specs.TenantsRecorded.{RecordedRunner, named_answers_recorded}
use Rattle.tenant_recorder.proofs.EachPlace.{recorded_nothing}

module _ {R Q : Type 0} (starts : R → ℕ → AdmittedJob → Result (Unit {0}) ℕ → R → Type 0) (looks : R → ℕ → Progress → R → Type 0)
    (takes : R → Option (ℕ × Result Report ℕ) → R → Type 0) (taken : Q → List ℕ) (failed : Q → Type 0) (query : Query) where
  -- nothing is answered where there aren't as many recorders as desks
  apart : (s : Tenancy × RecordedRunner R Q) (reply : List ℕ) → (length s.1.recorders ≡ length s.0.desks → ⊥) → named_answers_recorded starts looks takes taken failed s query reply s
  apart s reply differ = (λ step. absurd (differ step.paired), recorded_nothing taken failed s.1.recorders s.0.desks)

  pub apart_ok : (s : Tenancy × RecordedRunner R Q) (told : Result (List ℕ) NoMemory) → (length s.1.recorders ≡ length s.0.desks → ⊥)
      → IfOk told (λ reply. named_answers_recorded starts looks takes taken failed s query reply s)
  apart_ok s (Ok reply) differ = apart s reply differ
  apart_ok s (Err e) differ = tt

  pub apart_err : (s : Tenancy × RecordedRunner R Q) (told : Result (List ℕ) NoMemory) → (length s.1.recorders ≡ length s.0.desks → ⊥)
      → OnErr told ((reply : List ℕ) × named_answers_recorded starts looks takes taken failed s query reply s)
  apart_err s (Ok reply) differ = tt
  apart_err s (Err e) differ = ([], apart s [] differ)

  -- else one answer is that of the desks, with the records of what it changes
  module _ (keep : KeepLimits) (ns ms : List (String Global)) (same : ns ≡ ms) (ds es : List Ledger) (r q : R) (ps qs : List (ChangeRecorder Q))
      (forgotten : HaveForgotten keep ds ps → HaveForgotten keep es qs) (records : AreRecorded taken failed ps qs ds es) where
    abbrev Answered : List ℕ → Type 0
    Answered reply = HaveForgotten keep ds ps → DeskAnswer starts looks takes keep (desk_for (map string_bytes ns) query.passage query.asked) query.asked ds r reply es q

    abbrev Recorded : List ℕ → Type 0
    Recorded reply = named_answers_recorded starts looks takes taken failed
        (record { names = map string_bytes ms; desks = ds }, record { runner = r; keep = keep; recorders = ps }) query reply
        (record { names = map string_bytes ms; desks = es }, record { runner = q; keep = keep; recorders = qs })

    answered : (reply : List ℕ) → Answered reply → Recorded reply
    answered reply answers = (
      λ had. (
        (subst (λ (xs : List (String Global)). DeskAnswer starts looks takes keep (desk_for (map string_bytes xs) query.passage query.asked) query.asked ds r reply es q) same (answers had), refl, refl),
        forgotten had,
      ),
      records,
    )

    pub answered_ok : (told : Result (List ℕ) NoMemory) → IfOk told (λ reply. HaveForgotten keep ds ps
        → DeskAnswer starts looks takes keep (desk_for (map string_bytes ns) query.passage query.asked) query.asked ds r reply es q)
        → IfOk told (λ reply. named_answers_recorded starts looks takes taken failed
        (record { names = map string_bytes ms; desks = ds }, record { runner = r; keep = keep; recorders = ps }) query reply
        (record { names = map string_bytes ms; desks = es }, record { runner = q; keep = keep; recorders = qs }))
    answered_ok (Ok reply) answers = answered reply answers
    answered_ok (Err e) answers = tt

    pub answered_err : (told : Result (List ℕ) NoMemory) → OnErr told ((reply : List ℕ) × (HaveForgotten keep ds ps
        → DeskAnswer starts looks takes keep (desk_for (map string_bytes ns) query.passage query.asked) query.asked ds r reply es q))
        → OnErr told ((reply : List ℕ) × named_answers_recorded starts looks takes taken failed
        (record { names = map string_bytes ms; desks = ds }, record { runner = r; keep = keep; recorders = ps }) query reply
        (record { names = map string_bytes ms; desks = es }, record { runner = q; keep = keep; recorders = qs }))
    answered_err (Ok reply) answers = tt
    answered_err (Err e) answers = (answers.0, answered answers.0 answers.1)
