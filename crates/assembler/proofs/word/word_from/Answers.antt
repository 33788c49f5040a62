use Rattle.assembler.proofs.WordTable.{found, none}
use Rattle.assembler.proofs.word.word_from.Goals as goal

pub returns : goal.returns
returns c = record { found = found _ _ c.word_of.ensures; none = none _ _ c.word_of.ensures }
