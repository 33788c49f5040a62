use Rattle.std.proofs.Common.{◌≡◌, length, reverse}
use Rattle.assembler.specs.Source.{without_blanks}
use Rattle.assembler.proofs.source.without_trailing_blanks.Given as goal

abbrev pub invariant-loop-rest : goal.invariant-loop-rest
invariant-loop-rest l = reverse (without_blanks (reverse l.text)) ≡ reverse (without_blanks (reverse l.rest))

abbrev pub decreases-loop-rest : goal.decreases-loop-rest
decreases-loop-rest l = length l.rest
