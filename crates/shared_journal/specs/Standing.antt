-- The bytes of a journal's file, in which a snapshot may stand in place of the first records.
use Rattle.std.specs.Prelude.{ℕ, List}
use Rattle.compaction.specs.Snapshots.{IsInPlace, StandsForBytes}
use Rattle.keyed_desk.specs.KeyedSnapshots.{AreKeyedAlike}
use Rattle.keyed_desk.specs.KeyedSteps.{IsNewKeyed, MakesKeyed}

-- these bytes are those of a desk's whole journal, but that a snapshot may stand in place of the
-- first records
abbrev pub StandForJournal : List ℕ → List ℕ → Type 0
StandForJournal bytes whole = StandsForBytes IsNewKeyed MakesKeyed AreKeyedAlike bytes whole

-- these bytes are a snapshot of a desk to which these records lead
abbrev pub AreSnapshotFor : List ℕ → List ℕ → Type 0
AreSnapshotFor bytes records = IsInPlace IsNewKeyed MakesKeyed AreKeyedAlike bytes records
