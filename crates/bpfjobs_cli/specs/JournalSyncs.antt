-- The word that says when a server's journal is synced.
use Rattle.std.specs.Prelude.{List, ℕ, codes, if◌then◌else◌, Option, Some, None}
use Rattle.std.specs.Str.{bytes_eq}
use Rattle.bpfjobs_cli.specs.declared.journal_sync.JournalSync.{JournalSync}
use Rattle.bpfjobs_cli.specs.declared.journal_sync.JournalSync.TheVariants.{Always, Interval}

-- the sync that a word says, if it says one
abbrev pub sync_said : List ℕ → Option JournalSync
sync_said word =
    if bytes_eq word (codes "always") then Some Always
    else if bytes_eq word (codes "interval") then Some Interval else None

-- the same of a word that may be missing: then it is always
abbrev pub sync_by : Option (List ℕ) → Option JournalSync
sync_by None = Some Always
sync_by (Some word) = sync_said word
