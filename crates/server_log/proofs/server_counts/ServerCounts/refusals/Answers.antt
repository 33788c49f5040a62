use Rattle.std.proofs.lemmas.Result.{IfOk-weaker}
use Rattle.server_log.proofs.server_counts.ServerCounts.refusals.Goals as goal

pub returns : goal.returns
returns c = IfOk-weaker c.refusal_counts.result _ _ (λ found is. (c.deref.result.now, is)) c.refusal_counts.ensures
