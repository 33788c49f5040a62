use Rattle.std.proofs.Common.{◌≡◌, sum, take}
use Rattle.reference.proofs.helper_calls.total.Given as goal

abbrev pub invariant-loop-byte : goal.invariant-loop-byte
invariant-loop-byte l = l.total ≡ sum (take l.byte-index l.bytes)
