-- The rule of the table of a journal's history, and what its steps do.
use Rattle.std.specs.Prelude.{◌≡◌, ◌≢◌, ◌⊎◌, ◌≤◌, ◌==◌, leb, ℕ, Bool, true, false, List, [], ◌∷◌, ◌++◌, length, Some, MatchBool}
use mathlib.Core.Option.{Option, some}
use mathlib.Core.List.{IsPrefix}
use lib.ListN.{get_elem?}
use Rattle.atomic_table.specs.Table.{Me, Step, rest}
use Rattle.journal_file.specs.FileLogs.{file_state}
use Rattle.journal_file.specs.declared.file_log.FileLog.{FileLog}
use Rattle.shared_journal.specs.declared.commit_log.CommitLog.{CommitLog}
use Rattle.shared_journal.specs.declared.journal_part.JournalPart.{JournalPart}
use Rattle.shared_journal.specs.declared.seat_views.JournalEntry.{JournalEntry}
use Rattle.shared_journal.specs.declared.seat_views.JournalView.{JournalView}
use Rattle.shared_journal.specs.JournalHistories.{entries_by, journal_bytes}
use Rattle.shared_journal.specs.Standing.{StandForJournal}

-- a seat that knows of a journal only what its log held at first
abbrev pub journal_founder : List ℕ → JournalView
journal_founder first = record {
  number = 0;
  first = first;
  seen = [];
  own = [];
  durable = [];
  is_failed = false;
  has_waiting = false;
  has_log = false;
  count = 0;
  taken = [];
  waits = [];
  written = [];
  copied = [];
  is_note = false;
}

-- ---- the rule

-- The five words of the table: of the records that wait, of the log, whether the journal has
-- failed, how many records were added, and how many are told to be durable. Which seats hold the
-- two parts, where they are out. What the log held at first. The records that were added: those
-- that were taken to be written, and behind them those that wait. Those that are durable. And the
-- bytes that were given to who follows the journal.
pub record JournalFacts : Type 0 where
  pub waiting_word : ℕ
  pub log_word : ℕ
  pub failed_word : ℕ
  pub added_word : ℕ
  pub durable_word : ℕ
  pub waiting_at : ℕ
  pub log_at : ℕ
  pub first : List ℕ
  pub added : List JournalEntry
  pub taken : List JournalEntry
  pub waits : List JournalEntry
  pub durable : List JournalEntry
  pub copied : List ℕ

-- The log's durable bytes begin with some that stand for those that it held at first and those of
-- the durable records. Unless it has failed, they are just these, nothing else is written, and all
-- that was taken is durable.
pub record KeepsDurable (first : List ℕ) (taken durable : List JournalEntry)
    (commits : CommitLog FileLog) : Type 0 where
  pub bytes : List ℕ
  pub stands : StandForJournal bytes (first ++ journal_bytes durable)
  pub kept : IsPrefix bytes (file_state commits.log).durable
  pub all : commits.has_failed ≡ false → durable ≡ taken
  pub whole : commits.has_failed ≡ false
      → file_state commits.log ≡ record { durable = bytes; pending = [] }

-- These are the bytes of the journal that weren't given yet to who follows it, if it is followed.
abbrev pub AreCopies : List ℕ → List JournalEntry → List ℕ → Bool → List ℕ → Type 0
AreCopies first durable copied is_followed bytes =
    is_followed ≡ true → first ++ journal_bytes durable ≡ copied ++ bytes

-- beside the log the part has these
abbrev pub HasCopies : List ℕ → List JournalEntry → List ℕ → JournalPart → Type 0
HasCopies first durable copied part =
    AreCopies first durable copied part.is_followed part.bytes.items

-- the part at home has the bytes of the records that wait
abbrev pub HasWaiting : List JournalEntry → Option JournalPart → Type 0
HasWaiting waits home =
    (part : JournalPart) × (home ≡ some part) × (part.bytes.items ≡ journal_bytes waits)

-- the part at home has the log, with the records that are durable
abbrev pub HasLog : JournalFacts → Option JournalPart → Type 0
HasLog facts home =
    (part : JournalPart) × (commits : CommitLog FileLog) × (home ≡ some part)
    × (part.commits ≡ Some commits) × KeepsDurable facts.first facts.taken facts.durable commits
    × HasCopies facts.first facts.durable facts.copied part

-- One word counts the records that were added: exactly, where nobody holds those that wait, and
-- never fewer. The other tells no more of them than are durable.
abbrev pub AreCounted : JournalFacts → Type 0
AreCounted facts =
    (facts.waiting_word ≡ 0 → facts.added_word ≡ length facts.added)
    × (length facts.added ≤ facts.added_word) × (facts.durable_word ≤ length facts.durable)

-- the words, in order
abbrev pub words_of : JournalFacts → List ℕ
words_of facts =
    facts.waiting_word ∷ facts.log_word ∷ facts.failed_word ∷ facts.added_word
    ∷ facts.durable_word ∷ []

-- what the view at a seat says is so, where of its number and its own records a note says nothing
pub record FitsJournal (facts : JournalFacts) (seat : ℕ) (v : JournalView) : Type 0 where
  pub number : v.is_note ≡ false → v.number ≡ seat
  pub first : v.first ≡ facts.first
  pub seen : IsPrefix v.seen facts.added
  pub own : v.is_note ≡ false → entries_by seat facts.added ≡ v.own
  pub durable : IsPrefix v.durable facts.durable
  pub failed : v.is_failed ≡ true → facts.failed_word ≢ 0
  pub waiting : v.has_waiting ≡ true
      → (facts.waiting_word ≢ 0) × (seat ≡ facts.waiting_at) × (v.taken ≡ facts.taken)
      × (v.waits ≡ facts.waits) × (v.count ≡ facts.added_word)
  pub log : v.has_log ≡ true
      → (facts.log_word ≢ 0) × (seat ≡ facts.log_at) × (v.taken ≡ facts.taken)
      × (v.written ≡ facts.durable)
  pub copied : (seat ≡ 0) ⊎ (v.has_log ≡ true) → v.copied ≡ facts.copied

-- There is one history, of which each seat knows a beginning and its own records. Where the lock
-- of a part is free, the part is at home, and has what the history says. A seat that isn't there
-- yet has put nothing in. The first seat is that of who follows the journal.
pub record IsJournal (first words : List ℕ) (homes : List (Option JournalPart))
    (views : List JournalView) : Type 0 where
  pub facts : JournalFacts
  pub begun : facts.first ≡ first
  pub words_are : words ≡ words_of facts
  pub waiting_home : Option JournalPart
  pub log_home : Option JournalPart
  pub homes_are : homes ≡ waiting_home ∷ log_home ∷ []
  pub split : facts.added ≡ facts.taken ++ facts.waits
  pub synced : IsPrefix facts.durable facts.taken
  pub counts : AreCounted facts
  pub waiting : facts.waiting_word ≡ 0 → HasWaiting facts.waits waiting_home
  pub log : facts.log_word ≡ 0 → HasLog facts log_home
  pub each : (seat : ℕ) (v : JournalView) → get_elem? views seat ≡ some v → FitsJournal facts seat v
  pub others : (n : ℕ) → length views ≤ n → entries_by n facts.added ≡ []

-- ---- the steps

-- a seat that is new: it has put nothing in, has seen no record of its own, and holds nothing
abbrev pub Watches : {S : Type 0} → Step S → Me S JournalView → ℕ → Me S JournalView → Type 0
Watches s v found w =
    (w.0.first ≡ v.0.first) × (w.0.own ≡ []) × (w.0.is_failed ≡ false)
    × (w.0.has_waiting ≡ false) × (w.0.has_log ≡ false) × (w.0.is_note ≡ false)
    × (entries_by w.0.number w.0.seen ≡ [])

-- a seat that is a note of nothing
abbrev pub IsBlankNote : {S : Type 0} → Step S → Me S JournalView → ℕ → Me S JournalView → Type 0
IsBlankNote s v found w =
    (w.0.first ≡ v.0.first) × (w.0.seen ≡ []) × (w.0.durable ≡ []) × (w.0.is_failed ≡ false)
    × (w.0.has_waiting ≡ false) × (w.0.has_log ≡ false) × (w.0.is_note ≡ true)

-- a note of what a seat had seen
abbrev pub noted_view : JournalView → JournalView
noted_view v = record v { is_note = true }

-- The seat holds the records that wait: it knows the whole history, which begins with all that it
-- had seen, its own records in it, and their number.
pub record TakesWaiting (v w : Me JournalPart JournalView) : Type 0 where
  pub part : JournalPart
  pub taken : List JournalEntry
  pub waits : List JournalEntry
  pub bytes : part.bytes.items ≡ journal_bytes waits
  pub seen : IsPrefix v.0.seen (taken ++ waits)
  pub own : v.0.is_note ≡ false → entries_by v.0.number (taken ++ waits) ≡ v.0.own
  pub same : v.0.has_log ≡ true → taken ≡ v.0.taken
  pub is : w ≡ (
    record v.0 {
      has_waiting = true;
      count = length (taken ++ waits);
      taken = taken;
      waits = waits;
    },
    (0, part) ∷ v.1,
  )

-- the lock of those that wait was free, or nothing changed
abbrev pub TriesWaiting : Step JournalPart → Me JournalPart JournalView → ℕ
    → Me JournalPart JournalView → Type 0
TriesWaiting s v found w = MatchBool (found == 0) (TakesWaiting v w) (w ≡ v)

-- nothing changed
abbrev pub StaysAsItIs : {S : Type 0} → Step S → Me S JournalView → ℕ → Me S JournalView → Type 0
StaysAsItIs s v found w = w ≡ v

-- those that wait are given back as they were
abbrev pub ReturnsWaiting : {S : Type 0} → Step S → Me S JournalView → ℕ → Me S JournalView → Type 0
ReturnsWaiting s v found w = w ≡ (record v.0 { has_waiting = false }, rest v.1)

-- the bytes of the part that was taken last
abbrev pub held_bytes : List (ℕ × JournalPart) → List ℕ
held_bytes [] = []
held_bytes (held ∷ others) = held.1.bytes.items

-- the seat has put in this record, behind all others
abbrev pub own_entry : JournalView → List ℕ → JournalEntry
own_entry v bytes = record { by = v.number; bytes = bytes }

abbrev pub with_record : JournalView → JournalEntry → JournalView
with_record v e = record v {
  has_waiting = false;
  seen = (v.taken ++ v.waits) ++ e ∷ [];
  own = v.own ++ e ∷ [];
}

-- they are given back with a record behind them
pub record AddsRecord (s : Step JournalPart) (v : Me JournalPart JournalView) (found : ℕ)
    (w : Me JournalPart JournalView) : Type 0 where
  pub entry : JournalEntry
  pub by : entry.by ≡ v.0.number
  pub behind : held_bytes v.1 ≡ journal_bytes v.0.waits ++ entry.bytes
  pub own : entries_by v.0.number ((v.0.taken ++ v.0.waits) ++ entry ∷ []) ≡ v.0.own ++ entry ∷ []
  pub is : w ≡ (with_record v.0 entry, rest v.1)

-- all that wait are taken, and none are left
abbrev pub with_each_taken : JournalView → JournalView
with_each_taken v = record v {
  has_waiting = false;
  taken = v.taken ++ v.waits;
  seen = v.taken ++ v.waits;
}

abbrev pub TakesEach : {S : Type 0} → Step S → Me S JournalView → ℕ → Me S JournalView → Type 0
TakesEach s v found w = w ≡ (with_each_taken v.0, rest v.1)

-- the seat holds the log, and knows what of the history is durable
pub record TakesLog (v w : Me JournalPart JournalView) : Type 0 where
  pub part : JournalPart
  pub commits : CommitLog FileLog
  pub taken : List JournalEntry
  pub written : List JournalEntry
  pub copied : List ℕ
  pub has : part.commits ≡ Some commits
  pub keeps : KeepsDurable v.0.first taken written commits
  pub copies : HasCopies v.0.first written copied part
  pub durable : IsPrefix v.0.durable written
  pub follows : v.0.is_note ≡ false → v.0.number ≡ 0 → copied ≡ v.0.copied
  pub is : w ≡ (
    record v.0 { has_log = true; taken = taken; written = written; copied = copied },
    (1, part) ∷ v.1,
  )

abbrev pub TriesLog : Step JournalPart → Me JournalPart JournalView → ℕ
    → Me JournalPart JournalView → Type 0
TriesLog s v found w = MatchBool (found == 0) (TakesLog v w) (w ≡ v)

-- the log is given back, and all that was taken is durable
abbrev pub SettlesLog : {S : Type 0} → Step S → Me S JournalView → ℕ → Me S JournalView → Type 0
SettlesLog s v found w = w ≡ (record v.0 { has_log = false; durable = v.0.taken }, rest v.1)

-- the log is given back, and no more is durable than before
abbrev pub ReturnsLog : {S : Type 0} → Step S → Me S JournalView → ℕ → Me S JournalView → Type 0
ReturnsLog s v found w = w ≡ (record v.0 { has_log = false }, rest v.1)

-- the seat is that of who follows the journal, and holds nothing
pub record IsFollower {S : Type 0} (v : Me S JournalView) : Type 0 where
  pub is_seat : v.0.is_note ≡ false
  pub number : v.0.number ≡ 0
  pub no_waiting : v.0.has_waiting ≡ false
  pub no_log : v.0.has_log ≡ false
  pub none_held : v.1 ≡ []

-- the log is given back, and all that is durable was given to the seat, which follows the journal
abbrev pub with_copies : JournalView → JournalView
with_copies v = record v { has_log = false; copied = v.first ++ journal_bytes v.written }

abbrev pub CopiesLog : {S : Type 0} → Step S → Me S JournalView → ℕ → Me S JournalView → Type 0
CopiesLog s v found w = w ≡ (with_copies v.0, rest v.1)

-- the journal fails
abbrev pub FailsIt : {S : Type 0} → Step S → Me S JournalView → ℕ → Me S JournalView → Type 0
FailsIt s v found w = w ≡ (record v.0 { is_failed = true }, v.1)

-- the journal had failed, or the seat knew of no failure
abbrev pub LooksAtIt : {S : Type 0} → Step S → Me S JournalView → ℕ → Me S JournalView → Type 0
LooksAtIt s v found w =
    MatchBool (found == 0) ((w ≡ v) × (v.0.is_failed ≡ false))
    (w ≡ (record v.0 { is_failed = true }, v.1))

-- The seat sees the whole history, which begins with all that it had seen, and with all that it
-- knew to be durable. It has at most as many records as were found.
pub record SeesEach (v : Me JournalPart JournalView) (found : ℕ) (w : Me JournalPart JournalView) :
    Type 0 where
  pub all : List JournalEntry
  pub seen : IsPrefix v.0.seen all
  pub durable : IsPrefix v.0.durable all
  pub most : length all ≤ found
  pub is : w ≡ (record v.0 { seen = all; count = found }, v.1)

abbrev pub LooksAtEach : Step JournalPart → Me JournalPart JournalView → ℕ
    → Me JournalPart JournalView → Type 0
LooksAtEach s v found w = SeesEach v found w

-- where as many records are durable as the seat counted, all that it has seen is durable
abbrev pub LooksAtDurable : {S : Type 0} → Step S → Me S JournalView → ℕ → Me S JournalView → Type 0
LooksAtDurable s v found w =
    MatchBool (leb v.0.count found) (w ≡ (record v.0 { durable = v.0.seen }, v.1)) (w ≡ v)

-- the seat that holds those that wait finds as many as it knows
abbrev pub FindsCount : {S : Type 0} → Step S → Me S JournalView → ℕ → Me S JournalView → Type 0
FindsCount s v found w = (found ≡ v.0.count) × (w ≡ v)

-- it counts others
abbrev pub CountsRecords : {S : Type 0} → Step S → Me S JournalView → ℕ → Me S JournalView → Type 0
CountsRecords s v stored w = w ≡ (record v.0 { count = stored }, v.1)

-- ---- the calls

-- a record was put in behind the whole history, which begins with all that the seat had seen
pub record PutsRecord (v : Me JournalPart JournalView) (bytes : List ℕ)
    (w : Me JournalPart JournalView) : Type 0 where
  pub taken : List JournalEntry
  pub waits : List JournalEntry
  pub seen : IsPrefix v.0.seen (taken ++ waits)
  pub own : entries_by v.0.number ((taken ++ waits) ++ own_entry v.0 bytes ∷ [])
      ≡ v.0.own ++ own_entry v.0 bytes ∷ []
  pub count : ℕ
  pub is : w ≡ (
    with_record (record v.0 {
      has_waiting = true;
      count = count;
      taken = taken;
      waits = waits;
    }) (own_entry v.0 bytes),
    v.1,
  )

-- the seat has seen the whole history, and changed nothing
pub record SeesWaiting (v w : Me JournalPart JournalView) : Type 0 where
  pub count : ℕ
  pub taken : List JournalEntry
  pub waits : List JournalEntry
  pub is : w ≡ (
    record v.0 {
      has_waiting = false;
      count = count;
      taken = taken;
      waits = waits;
    },
    v.1,
  )

-- all that waited was taken, as bytes, by the seat that holds the log
pub record TakesBytes (v : Me JournalPart JournalView) (bytes : List ℕ)
    (w : Me JournalPart JournalView) : Type 0 where
  pub waits : List JournalEntry
  pub are : bytes ≡ journal_bytes waits
  pub seen : IsPrefix v.0.seen (v.0.taken ++ waits)
  pub is : w ≡ (
    with_each_taken (record v.0 {
      has_waiting = true;
      count = length (v.0.taken ++ waits);
      waits = waits;
    }),
    v.1,
  )

-- The log has all that was added, by the seat that holds it. All that it had before was durable.
pub record WritesAll (v w : Me JournalPart JournalView) : Type 0 where
  pub waits : List JournalEntry
  pub before : v.0.written ≡ v.0.taken
  pub seen : IsPrefix v.0.seen (v.0.taken ++ waits)
  pub is : w ≡ (
    with_each_taken (record v.0 {
      has_waiting = true;
      count = length (v.0.taken ++ waits);
      waits = waits;
    }),
    v.1,
  )

-- the log has no more than it had
pub record WritesNone (v w : Me JournalPart JournalView) : Type 0 where
  pub count : ℕ
  pub seen : List JournalEntry
  pub taken : List JournalEntry
  pub waits : List JournalEntry
  pub later : IsPrefix v.0.seen seen
  pub is : w ≡ (
    record v.0 {
      has_waiting = false;
      count = count;
      seen = seen;
      taken = taken;
      waits = waits;
    },
    v.1,
  )

-- all that was added is durable
pub record CommitsAll (v w : Me JournalPart JournalView) : Type 0 where
  pub count : ℕ
  pub all : List JournalEntry
  pub taken : List JournalEntry
  pub waits : List JournalEntry
  pub written : List JournalEntry
  pub copied : List ℕ
  pub seen : IsPrefix v.0.seen all
  pub durable : IsPrefix v.0.durable all
  pub is : w ≡ (
    record v.0 {
      has_waiting = false;
      has_log = false;
      count = count;
      seen = all;
      durable = all;
      taken = taken;
      waits = waits;
      written = written;
      copied = copied;
    },
    v.1,
  )

-- no more is durable than before
pub record CommitsNone (v w : Me JournalPart JournalView) : Type 0 where
  pub count : ℕ
  pub seen : List JournalEntry
  pub taken : List JournalEntry
  pub waits : List JournalEntry
  pub written : List JournalEntry
  pub copied : List ℕ
  pub later : IsPrefix v.0.seen seen
  pub is : w ≡ (
    record v.0 {
      has_waiting = false;
      has_log = false;
      count = count;
      seen = seen;
      taken = taken;
      waits = waits;
      written = written;
      copied = copied;
    },
    v.1,
  )
