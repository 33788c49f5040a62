use Rattle.std.proofs.Common.{◌≡◌, map, take}
use Rattle.reference.specs.Records.{move_of}
use Rattle.bpfjobs_cli.specs.Shown.{taken_move}
use Rattle.bpfjobs_cli.proofs.views.moves_of.Given as goal

abbrev pub invariant-loop-number : goal.invariant-loop-number
invariant-loop-number l = map move_of l.moves.items ≡ map taken_move (take l.number-index l.schedule)
