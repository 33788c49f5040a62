use Rattle.std.proofs.Common.{◌≡◌, ◌++◌, ◌≤◌, length, map}
use Rattle.journal.specs.Records.{journal_of, AllFitRecords}
use Rattle.journal.proofs.reading.decode_all.Given as goal

-- the records so far, and then the rest
abbrev pub invariant-loop-payload : goal.invariant-loop-payload
invariant-loop-payload l = record {
  within : length l.rest ≤ length l.bytes;
  whole : l.bytes ≡ journal_of (map (λ p. p.items) l.payloads.items) ++ l.rest;
  each : AllFitRecords (map (λ p. p.items) l.payloads.items);
}

abbrev pub decreases-loop-payload : goal.decreases-loop-payload
decreases-loop-payload l = length l.rest
