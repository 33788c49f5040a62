use Rattle.std.proofs.Common.{◌≡◌, length}
use Rattle.job_server.proofs.at_once.each_of.Given as goal

-- each of the first journals
abbrev pub invariant-loop-journal : goal.invariant-loop-journal
invariant-loop-journal l = length l.each.items ≡ l.journal-index
