-- What the bytes lead to behind which a log goes on.
use Rattle.std.proofs.Common.{◌≡◌, ℕ, List, [], refl, ap, ◌∙◌}
use Rattle.journal.specs.Records.{AllFitRecords, journal_of}
use Rattle.recovery.specs.Histories.{IsAfter}
use Rattle.compaction.specs.Snapshots.{LeadsToHistory}
use Rattle.compaction.proofs.SnapshotLemmas.{RoundTrip, new_leads, old_leads}
use Rattle.journal_file.specs.FileLogs.{file_state}
use Rattle.journal_file.specs.Shortening.{AllGoOnBehind, GoesOnBehind, IsShortened}
use Rattle.journal_file.specs.declared.file_log.FileLog.{FileLog}
use Rattle.journal_file.specs.declared.shortening.Shortened.{Shortened}
use Rattle.journal_file.specs.declared.shortening.Shortened.TheVariants.{NotNeeded, Replaced, Kept, Unknown}

module _ {M : Type 0} (starts : M → Type 0) (steps : M → List ℕ → M → Type 0) (alike : M → M → Type 0) (is_too_large : M → Type 0)
    (itself : (s : M) → alike s s) (law : RoundTrip) (machine : M) (journal : List ℕ) (log : FileLog) where
  -- a log that is as it was
  stays_behind : (after : FileLog) → after ≡ log → (history : List (List ℕ)) → AllFitRecords history → IsAfter starts steps history machine
      → journal ≡ journal_of history → file_state log ≡ record { durable = journal; pending = [] }
      → GoesOnBehind (λ bytes. LeadsToHistory starts steps alike bytes history machine) after
  stays_behind after same history fit leads is state =
      (journal, old_leads starts steps alike itself law journal history machine fit leads is, ap file_state same ∙ state)

  pub leads_on : (result : Shortened) → IsShortened starts steps alike is_too_large machine journal log result → (history : List (List ℕ)) → AllFitRecords history
      → IsAfter starts steps history machine → journal ≡ journal_of history → file_state log ≡ record { durable = journal; pending = [] }
      → AllGoOnBehind (λ bytes. LeadsToHistory starts steps alike bytes history machine) result
  leads_on (NotNeeded after) s history fit leads is state = stays_behind after s.0 history fit leads is state
  leads_on (Replaced after bytes) s history fit leads is state =
      (bytes.items, new_leads starts steps alike law bytes.items bytes.items history machine s.snapshot leads refl, s.state)
  leads_on (Kept after why) s history fit leads is state = stays_behind after s.0 history fit leads is state
  leads_on Unknown s history fit leads is state = tt
