-- The changes that a journal begins with, and what stands behind them.
use Rattle.std.specs.Prelude.{◌≡◌, ℕ, List, ◌++◌, drop, length, map, take}
use Rattle.journal.specs.Records.{AllFitRecords, DecodesTo, FitsRecord, IsTorn, journal_of, record_of}
use Rattle.journal.specs.Tails.{HasNoRecord, IsTail}
use Rattle.recovery.specs.Histories.{IsAfter}
use Rattle.keyed_desk.specs.KeyedChanges.{keyed_bytes}
use Rattle.keyed_desk.specs.KeyedSteps.{IsNewKeyed, KeyedState, MakesKeyed}
use Rattle.keyed_desk.specs.declared.keyed_change.KeyedChange.{KeyedChange}
use Rattle.journal_text.specs.ChangeLines.{lines_of}
use Rattle.journal_text.specs.declared.journal_lines.JournalEnd.{JournalEnd}
use Rattle.journal_text.specs.declared.journal_lines.JournalEnd.TheVariants.{Tail, NotAChange}
use Rattle.journal_text.specs.declared.checking.RecordCount.{RecordCount}

-- the bytes begin with the records of these changes, and go on at this byte
pub record BeginWithChanges (bytes : List ℕ) (changes : List KeyedChange) (at : ℕ) : Type 0 where
  pub whole : bytes ≡ journal_of (map keyed_bytes changes) ++ drop at bytes
  pub each : AllFitRecords (map keyed_bytes changes)
  pub place : at ≡ length (journal_of (map keyed_bytes changes))

-- a whole record stands at the front, and its payload is that of no change
pub record StartWithNoChange (bytes : List ℕ) : Type 0 where
  pub payload : List ℕ
  pub more : List ℕ
  pub fits : FitsRecord payload
  pub stands : bytes ≡ record_of payload ++ more
  pub no_change : (change : KeyedChange) → keyed_bytes change ≡ payload → ⊥

-- behind these changes stands no record of a change, but what the end says
abbrev pub EndChangesWith : List ℕ → ℕ → List KeyedChange → JournalEnd → Type 0
EndChangesWith bytes budget changes (Tail at kind) =
    BeginWithChanges bytes changes at × IsTorn (drop at bytes) × IsTail (drop at bytes) budget kind
EndChangesWith bytes budget changes (NotAChange at) =
    BeginWithChanges bytes changes at × StartWithNoChange (drop at bytes)

-- of the lines of a journal's first changes a beginning was written
abbrev pub ArePartlyTold : List ℕ → List ℕ → List ℕ → Type 0
ArePartlyTold bytes before after =
    (changes : List KeyedChange) × (at : ℕ) × BeginWithChanges bytes changes at
    × (n : ℕ) × (after ≡ before ++ take n (lines_of changes))

-- The journal is one that a desk goes on from: so many whole records, of so many bytes, lead to a
-- state of it, and no record stands anywhere behind them.
pub record IsWholeJournal (bytes : List ℕ) (count : RecordCount) : Type 0 where
  pub payloads : List (List ℕ)
  pub tail : List ℕ
  pub reads : DecodesTo bytes payloads tail
  pub records : count.records ≡ length payloads
  pub len : count.len ≡ length (journal_of payloads)
  pub desk : KeyedState
  pub leads : IsAfter IsNewKeyed MakesKeyed payloads desk
  pub undamaged : HasNoRecord tail
