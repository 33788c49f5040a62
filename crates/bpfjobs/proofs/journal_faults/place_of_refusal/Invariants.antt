use Rattle.std.proofs.Common.{◌≤◌, length}
use Rattle.bpfjobs.proofs.journal_faults.place_of_refusal.Given as goal

abbrev pub invariant-loop-payload : goal.invariant-loop-payload
invariant-loop-payload l = length l.rest ≤ length l.bytes

abbrev pub decreases-loop-payload : goal.decreases-loop-payload
decreases-loop-payload l = length l.rest
