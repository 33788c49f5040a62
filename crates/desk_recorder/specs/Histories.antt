-- The history of a desk: all changes that led to it.
use Rattle.std.specs.Prelude.{◌≡◌, ℕ, List, ◌++◌, Result}
use Rattle.accounts.specs.Ledgers.{Ledger}
use Rattle.sessions.specs.Grammar.{Asked}
use Rattle.journal.specs.Records.{journal_of, AllFitRecords}
use Rattle.recovery.specs.Histories.{IsAfter}
use Rattle.desk_journal.specs.declared.journaled_desk.OpenJob.{OpenJob}
use Rattle.sessions.specs.declared.job_key.KeyedJob.{KeyedJob}
use Rattle.keyed_desk.specs.KeyedSteps.{IsNewKeyed, MakesKeyed}
use Rattle.desk_recorder.specs.Recording.{HoldsOpen, keyed_state}

-- a history of changes leads from a new desk to this one, with its open jobs, and to these keys
abbrev pub IsDeskHistory : List (List ℕ) → Ledger → List KeyedJob → Type 0
IsDeskHistory history desk keys = (held : List OpenJob) × HoldsOpen held desk
    × IsAfter IsNewKeyed MakesKeyed history (keyed_state desk held keys)

-- A queue has taken the records of some more changes, in order. A history and these behind it lead
-- to the desk and these keys.
pub record RecordsLead {Q : Type 0} (taken : Q → List ℕ) (before after : Q)
    (history : List (List ℕ)) (desk : Ledger) (keys : List KeyedJob) : Type 0 where
  pub payloads : List (List ℕ)
  pub fit : AllFitRecords payloads
  pub more : taken after ≡ taken before ++ journal_of payloads
  pub lead : IsDeskHistory (history ++ payloads) desk keys

-- so many frames are answered, one after the other
pub data AnswersInTurn {S : Type 0} (answers : S → Result Asked ℕ → List ℕ → S → Type 0)
    (start : S) : S → Type 0 where
  none_yet : AnswersInTurn answers start start
  one_more : (s : S) (query : Result Asked ℕ) (reply : List ℕ) (t : S)
      → AnswersInTurn answers start s → answers s query reply t → AnswersInTurn answers start t
