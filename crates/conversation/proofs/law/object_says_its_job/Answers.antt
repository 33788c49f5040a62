use Rattle.conversation.proofs.ReadBack.{order_says}
use Rattle.conversation.proofs.law.object_says_its_job.Goals as goal

pub returns : goal.returns
returns c = order_says
