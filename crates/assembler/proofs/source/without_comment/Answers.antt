use Rattle.assembler.proofs.SourceLines.{code_is}
use Rattle.assembler.proofs.source.without_comment.Goals as goal

pub returns : goal.returns
returns c = code_is _ _ _ c.split_before.ensures.whole c.split_before.ensures.front c.split_before.ensures.back
