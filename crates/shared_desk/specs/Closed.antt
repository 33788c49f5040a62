-- Connections that are over.
use Rattle.std.specs.Prelude.{◌≡◌, ◌<◌, ◌==◌, ℕ, List, [], ◌∷◌, Bool, true, false, if◌then◌else◌, Result, Ok, Err, MatchResult}
use Rattle.streams.specs.declared.fault.StreamFault.{StreamFault}
use Rattle.shared_desk.specs.declared.closed.ClosedConnection.{ClosedConnection}
use Rattle.shared_desk.specs.declared.passage.Passage.{Passage}
use Rattle.shared_desk.specs.Histories.{HistoryEntry, part_of}
use Rattle.shared_desk.specs.ClientViews.{ClientView}
use Rattle.shared_desk.specs.Parts.{IsWritten, IsWrittenUpTo, NamesTheEnd}

-- whether the connection of this number is among them
abbrev pub is_among : ℕ → List ClosedConnection → Bool
is_among n [] = false
is_among n (c ∷ cs) = if n == c.connection then true else is_among n cs

-- Each was opened, is there once, and has its part of the history.
abbrev pub AreClosed : ℕ → List HistoryEntry → List ClosedConnection → Type 0
AreClosed opened history [] = Unit {0}
AreClosed opened history (c ∷ cs) =
    (c.connection < opened) × (part_of c.connection history ≡ c.part)
    × (is_among c.connection cs ≡ false) × AreClosed opened history cs

-- What came asks the connection's part by its passage. What was written are the replies of that
-- part, in order; or it was given up by a fault.
abbrev pub IsServedWhole : ClosedConnection → Type 0
IsServedWhole c =
    MatchResult c.outcome
    (λ number. IsWritten c.passage c.part c.read [] (c.is_over ≡ true) number c.written
    × (c.read_failed ≡ false) × (c.write_failed ≡ false))
    (λ fault. IsWrittenUpTo c.passage fault c.part c.read [] c.written
    × NamesTheEnd fault c.read_failed c.write_failed)

-- the fault that was there first, if there is one
abbrev pub earlier_fault : Result (Unit {0}) StreamFault → Result ℕ StreamFault
    → Result (Unit {0}) StreamFault
earlier_fault (Err fault) later = Err fault
earlier_fault (Ok done) (Ok number) = Ok tt
earlier_fault (Ok done) (Err fault) = Err fault

-- the first fault by which a connection was given up; the one that was over last stands first
abbrev pub first_fault : List ClosedConnection → Result (Unit {0}) StreamFault
first_fault [] = Ok tt
first_fault (c ∷ cs) = earlier_fault (first_fault cs) c.outcome

-- what is known of a connection, with its two ends, once it is over
abbrev pub closed_of : {R W : Type 0} → Passage → (R → List ℕ) → (R → Bool) → (R → Bool)
    → (W → List ℕ) → (W → Bool) → ClientView → R → W → Result ℕ StreamFault → ClosedConnection
closed_of passage read over read_failed written write_failed v r w outcome = record {
  connection = v.number;
  passage = passage;
  part = v.part;
  read = read r;
  is_over = over r;
  read_failed = read_failed r;
  written = written w;
  write_failed = write_failed w;
  outcome = outcome;
}
