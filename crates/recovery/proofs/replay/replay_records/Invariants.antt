use Rattle.std.proofs.Common.{◌≡◌, ◌++◌, ℕ, List, length, ◌≤◌}
use Rattle.journal.specs.Records.{journal_of, AllFitRecords}
use Rattle.recovery.specs.Histories.{ReplaysChanges}
use Rattle.recovery.proofs.replay.replay_records.Given as goal

-- the records so far were replayed
abbrev pub invariant-loop-payload : goal.invariant-loop-payload
invariant-loop-payload g l =
    (length l.rest ≤ length l.bytes) × (payloads : List (List ℕ)) × (l.bytes ≡ journal_of payloads ++ l.rest) × AllFitRecords payloads
    × ReplaysChanges g.M.StateMachine.steps l.fn.machine payloads l.machine

abbrev pub decreases-loop-payload : goal.decreases-loop-payload
decreases-loop-payload g l = length l.rest
