use Rattle.std.proofs.Common.{◌≡◌, map, take}
use Rattle.reference.specs.Records.{move_of}
use Rattle.telgovan_c.specs.JobTraces.{unrefused_move}
use Rattle.telgovan_c.proofs.job_traces.moves_of.Given as goal

abbrev pub invariant-loop-number : goal.invariant-loop-number
invariant-loop-number l = map move_of l.moves.items ≡ map unrefused_move (take l.number-index l.schedule)
