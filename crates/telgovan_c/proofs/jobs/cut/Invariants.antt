use Rattle.telgovan_c.proofs.JobLemmas.{AreCutSoFar}
use Rattle.telgovan_c.proofs.jobs.cut.Given as goal

abbrev pub invariant-loop-piece : goal.invariant-loop-piece
invariant-loop-piece l = AreCutSoFar l.fn.code l.pieces l.piece-index l.programs.items
