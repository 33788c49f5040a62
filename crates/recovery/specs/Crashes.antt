-- A history in a log, and its first changes as a crash leaves them.
use Rattle.std.specs.Prelude.{◌≡◌, ℕ, ◌≤◌, Bool, false, List, length, take}
use Rattle.journal.specs.Records.{journal_of, AllFitRecords, DecodesTo}
use Rattle.journal.specs.Logs.{LogState, log_bytes}

-- The log keeps this history of changes, of which the first so many are committed.
pub record KeepsHistory (history : List (List ℕ)) (committed : ℕ) (stopped : Bool)
    (log : LogState) : Type 0 where
  pub fits : AllFitRecords history
  pub counted : committed ≤ length history
  -- the committed changes are on the disk
  pub durable : log.durable ≡ journal_of (take committed history)
  -- a beginning of the whole journal was written, and all of it unless a write failed
  pub front : (n : ℕ) × (log_bytes log ≡ take n (journal_of history))
  pub whole : stopped ≡ false → log_bytes log ≡ journal_of history

-- In these bytes stand the first changes of the history, none skipped and none in part, with each
-- that is committed; and then a torn tail.
pub record RecoversPrefix (bytes : List ℕ) (history : List (List ℕ)) (committed : ℕ) : Type 0 where
  pub count : ℕ
  pub at_least : committed ≤ count
  pub at_most : count ≤ length history
  pub tail : List ℕ
  pub reads : DecodesTo bytes (take count history) tail
