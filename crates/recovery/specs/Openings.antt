-- A journal that is opened, or refused with the place of its damage.
use Rattle.std.specs.Prelude.{◌≡◌, ◌<◌, ℕ, List, take, drop}
use Rattle.journal.specs.Records.{journal_of, DecodesTo}
use Rattle.journal.specs.Tails.{HasFirstRecordAt, HasNoRecord, search_cost}
use Rattle.recovery.specs.declared.opening.OpenFault.{OpenFault}
use Rattle.recovery.specs.declared.opening.OpenFault.TheVariants.{Damaged, Unsearched, NotReplayed}
use Rattle.recovery.specs.declared.replay.Recovered.{Recovered}
use Rattle.recovery.specs.Histories.{IsAfter}

-- The machine is after exactly the records of the bytes. No record stands anywhere behind these.
pub record IsJournalOpened {M : Type 0} (starts : M → Type 0) (steps : M → List ℕ → M → Type 0)
    (bytes : List ℕ) (found : Recovered M) : Type 0 where
  pub payloads : List (List ℕ)
  pub tail : List ℕ
  pub reads : DecodesTo bytes payloads tail
  pub machine : IsAfter starts steps payloads found.machine
  pub good : take found.len bytes ≡ journal_of payloads
  pub undamaged : HasNoRecord tail

-- The whole records of the bytes are so many bytes.
abbrev pub HasRecordsOf : List ℕ → ℕ → Type 0
HasRecordsOf bytes len = (payloads : List (List ℕ)) × DecodesTo bytes payloads (drop len bytes)

-- the refusal is true of the bytes
abbrev pub IsNotOpened : List ℕ → ℕ → OpenFault → Type 0
IsNotOpened bytes budget (Damaged len place) =
    HasRecordsOf bytes len × HasFirstRecordAt (drop len bytes) place
IsNotOpened bytes budget (Unsearched len) =
    HasRecordsOf bytes len × (budget < search_cost (drop len bytes))
IsNotOpened bytes budget (NotReplayed fault) = Unit {0}
