use Rattle.std.proofs.Common.{◌≡◌, ◌≤◌, ◌+◌, ◌++◌, ℕ, List, length}
use Rattle.journal.specs.Records.{AllFitRecords, journal_of}
use Rattle.journal_text.proofs.checking.count_records.Given as goal

-- so many records, and then the rest
abbrev pub invariant-loop-payload : goal.invariant-loop-payload
invariant-loop-payload l =
    (length l.rest ≤ length l.bytes) × (l.records + length l.rest ≤ length l.bytes)
    × (payloads : List (List ℕ)) × (l.bytes ≡ journal_of payloads ++ l.rest) × AllFitRecords payloads × (l.records ≡ length payloads)

abbrev pub decreases-loop-payload : goal.decreases-loop-payload
decreases-loop-payload l = length l.rest
