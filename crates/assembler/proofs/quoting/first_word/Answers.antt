use Rattle.std.proofs.Common.{arith}
use Rattle.assembler.proofs.QuoteLemmas.{word_is, cut_texts}
use Rattle.assembler.proofs.quoting.first_word.Goals as goal

pub returns-clause-part : goal.returns-clause-part
returns-clause-part c = word_is _ _ _ c.split_before.ensures.whole c.split_before.ensures.front c.split_before.ensures.back

pub returns-clause-text : goal.returns-clause-text
returns-clause-text c = λ u. (cut_texts 32 _ _ _ (omega arith) c.split_before.ensures.whole c.split_before.ensures.back u).0
