use Rattle.std.proofs.Common.{◌≡◌, length}
use Rattle.sessions.specs.KeyMarks.{marked, mark_of}
use Rattle.sessions.proofs.keyed_jobs.key_mark.Given as goal

abbrev pub invariant-bytes : goal.invariant-bytes
invariant-bytes l = marked l.mark l.rest ≡ mark_of l.fn.key

abbrev pub decreases-bytes : goal.decreases-bytes
decreases-bytes l = length l.rest
