use Rattle.std.proofs.Common.{◌≡◌, length}
use Rattle.assembler.specs.Source.{without_blanks}
use Rattle.assembler.proofs.source.without_leading_blanks.Given as goal

abbrev pub invariant-loop-rest : goal.invariant-loop-rest
invariant-loop-rest l = without_blanks l.text ≡ without_blanks l.rest

abbrev pub decreases-loop-rest : goal.decreases-loop-rest
decreases-loop-rest l = length l.rest
