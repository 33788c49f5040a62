-- A journal's writer, with its log.
use Rattle.std.specs.Prelude.{ℕ, List}
use Rattle.journal.specs.Logs.{LogState}
use Rattle.recovery.specs.declared.writer.JournalWriter.{JournalWriter}
use Rattle.recovery.specs.Crashes.{KeepsHistory}

-- its log keeps this history of changes, of which the first so many are committed
abbrev pub WritesHistory : {L : Type 0} → (L → LogState)
    → List (List ℕ) → ℕ → JournalWriter L → Type 0
WritesHistory state history committed writer =
    KeepsHistory history committed writer.stopped (state writer.log)
