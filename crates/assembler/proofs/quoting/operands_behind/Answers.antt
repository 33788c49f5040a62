use Rattle.std.proofs.Common.{◌∙◌, arith}
use Rattle.assembler.proofs.QuoteLemmas.{operands_are, drop_none, cut_texts}
use Rattle.assembler.proofs.quoting.operands_behind.Goals as goal

pub returns-then-is_empty-clause-part : goal.returns-then-is_empty-clause-part
returns-then-is_empty-clause-part c = drop_none _ c.if-is_empty.ensures ∙ operands_are _ _ _ c.split_before.ensures.whole c.split_before.ensures.front c.split_before.ensures.back

pub returns-then-is_empty-clause-text : goal.returns-then-is_empty-clause-text
returns-then-is_empty-clause-text c = λ u. rw (drop_none _ c.if-is_empty.ensures) (cut_texts 32 _ _ _ (omega arith) c.split_before.ensures.whole c.split_before.ensures.back u).1

pub returns-else-is_empty-clause-part : goal.returns-else-is_empty-clause-part
returns-else-is_empty-clause-part c = c.split_at.ensures.back ∙ operands_are _ _ _ c.split_before.ensures.whole c.split_before.ensures.front c.split_before.ensures.back

pub returns-else-is_empty-clause-text : goal.returns-else-is_empty-clause-text
returns-else-is_empty-clause-text c = λ u. rw c.split_at.ensures.back (cut_texts 32 _ _ _ (omega arith) c.split_before.ensures.whole c.split_before.ensures.back u).1
