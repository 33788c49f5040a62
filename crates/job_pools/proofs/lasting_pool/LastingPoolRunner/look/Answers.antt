use Rattle.job_pools.proofs.Pooled.{tells_job}
use Rattle.job_pools.proofs.lasting_pool.LastingPoolRunner.look.Goals as goal

pub returns-in-Some-clause-looks : goal.returns-in-Some-clause-looks
returns-in-Some-clause-looks g c =
    let seen = c.in-Some.ensures.some in
    let was = c.args.self.now in
    tells_job was.keeper was.boards c.look_at.new.boards c.args.number c.in-Some.told seen.0 seen.1 was.watched seen.2 seen.3 seen.4 c.in-Some.ensures.others c.in-Some.ensures.count
