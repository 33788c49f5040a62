use Rattle.std.proofs.lemmas.Result.{on_err_weaker}
use Rattle.durable_replies.proofs.noted_commits.ask_each.Goals as goal

pub returns-in-Always-clause-err : goal.returns-in-Always-clause-err
returns-in-Always-clause-err g c = rw c.in-Always.is c.commit_each_noted.ensures.err

pub returns-in-Interval-clause-err : goal.returns-in-Interval-clause-err
returns-in-Interval-clause-err g c = rw c.in-Interval.is (on_err_weaker c.look_at_each.result (λ kept known later goes_on. kept) c.look_at_each.ensures.err)
