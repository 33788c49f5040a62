-- What answers each frame at a desk with a runner, and then has the desk forget, or leaves it.
use Rattle.std.proofs.Common.{◌≡◌, ◌⊎◌, ℕ, List, Option, Result, inl, inr}
use Rattle.credit_book.specs.declared.book.Report.{Report}
use Rattle.credit_book.specs.declared.board.Progress.{Progress}
use Rattle.job_core.specs.Admitted.{AdmittedJob}
use Rattle.accounts.specs.declared.keep_limits.KeepLimits.{KeepLimits}
use Rattle.accounts.specs.Ledgers.{Ledger, KeepsWithin}
use Rattle.streams.specs.Answering.{Answers}
use Rattle.shared_desk.specs.Histories.{HistoryEntry, Query, by_any_passage}
use Rattle.desk_recorder.specs.RecordedAnswers.{answers_recorded}
use Rattle.desk_recorder.specs.declared.recording_handler.RecordingHandler.{RecordingHandler}
use Rattle.job_server.specs.Kept.{answers_keeping}

module _ {R : Type 0} (starts : R → ℕ → AdmittedJob → Result (Unit {0}) ℕ → R → Type 0) (looks : R → ℕ → Progress → R → Type 0) (takes : R → Option (ℕ × Result Report ℕ) → R → Type 0) where
  pub record AnswersOnce (keep : KeepLimits) (d : Ledger) (r : R) (e : HistoryEntry) (a : Ledger) (s : R) : Type 0 where
    pub mid : Ledger
    pub answered : Answers starts looks takes d r e.query.asked e.reply mid s
    pub kept : KeepsWithin keep mid a ⊎ (a ≡ mid)

  -- states that have a desk, a runner, and limits that stay
  pub record IsHost {S : Type 0} (answers : S → Query → List ℕ → S → Type 0) (desk : S → Ledger) (runner : S → R) (keeping : S → KeepLimits) : Type 0 where
    pub once : (s : S) (e : HistoryEntry) (t : S) → answers s e.query e.reply t → (keeping t ≡ keeping s) × AnswersOnce (keeping s) (desk s) (runner s) e (desk t) (runner t)

  pub keeping_host : IsHost (by_any_passage (answers_keeping starts looks takes)) (λ s. s.0) (λ s. s.1.runner) (λ s. s.1.keep)
  keeping_host = record { once = λ s e t answers. (answers.1, record { mid = answers.0.0; answered = answers.0.1; kept = inl answers.0.2 }) }

  pub recording_host : {Q : Type 0} (taken : Q → List ℕ) (failed : Q → Type 0) → IsHost {S = Ledger × RecordingHandler R Q} (by_any_passage (answers_recorded starts looks takes taken failed)) (λ s. s.0) (λ s. s.1.runner) (λ s. s.1.keep)
  recording_host taken failed = record { once = λ s e t answers. (answers.1, record { mid = answers.0.mid; answered = answers.0.answered; kept = kept_or s.0 answers.0.mid t.0 s.1.keep answers.0.kept }) }
    where
      kept_or : (old mid new : Ledger) (keep : KeepLimits) → KeepsWithin keep mid new ⊎ ((new ≡ mid) × (mid ≡ old)) → KeepsWithin keep mid new ⊎ (new ≡ mid)
      kept_or old mid new keep (inl keeps) = inl keeps
      kept_or old mid new keep (inr same) = inr same.0
