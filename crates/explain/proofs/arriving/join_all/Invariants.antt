use Rattle.std.proofs.Common.{length}
use Rattle.verifier.specs.Sources.{slots_left}
use Rattle.explain.specs.Arriving.{IsJoinedTo, arriving, arriving_at, subject_of_program}
use Rattle.explain.proofs.arriving.join_all.Given as goal

abbrev pub invariant-loop-source : goal.invariant-loop-source
invariant-loop-source l = IsJoinedTo (subject_of_program l.analyzed) (arriving_at l.table) l.slot (arriving l.joined) l.source

abbrev pub decreases-loop-source : goal.decreases-loop-source
decreases-loop-source l = slots_left (length l.analyzed.graph.now.code) l.source
