use Rattle.std.proofs.Common.{◌≡◌, ◌≤◌, ◌++◌, List, ℕ, length}
use Rattle.journal.specs.Records.{journal_of, AllFitRecords}
use Rattle.journal.proofs.inspection.whole_len.Given as goal

-- some records, and then the rest
abbrev pub invariant-loop-payload : goal.invariant-loop-payload
invariant-loop-payload l =
    (length l.rest ≤ length l.bytes) × (payloads : List (List ℕ)) × (l.bytes ≡ journal_of payloads ++ l.rest) × AllFitRecords payloads

abbrev pub decreases-loop-payload : goal.decreases-loop-payload
decreases-loop-payload l = length l.rest
