use Rattle.reference.proofs.RunLemmas.{put_alone, put_child}
use Rattle.reference.proofs.runs.apply.Goals as goal

pub returns-in_ok-push-clause-value : goal.returns-in_ok-push-clause-value
returns-in_ok-push-clause-value c =
    put_child c.args.change.buffer.items c.args.job.now.tasks.items c.push.new.self.items c.args.n c.args.change.member c.in-Some.task
    c.args.change.born c.in-Some.is c.in_ok-push.ensures.items

pub returns-in_default-clause-value : goal.returns-in_default-clause-value
returns-in_default-clause-value c =
    put_alone c.args.change.buffer.items c.args.job.now.tasks.items c.args.n c.args.change.member c.args.change.born c.in_default.is
