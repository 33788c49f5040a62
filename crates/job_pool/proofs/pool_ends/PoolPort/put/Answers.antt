use Rattle.job_pool.proofs.pool_ends.PoolPort.put.Goals.{then-is_ok, else-is_ok}
use Rattle.job_pool.proofs.pool_ends.PoolPort.put.Goals as goal

pub returns : goal.returns
returns g c =
    elim c.if-is_ok.branch [
      | then-is_ok w ↦ rw (w.self-inside-is, ← c.self.view_is) c.put-put.ensures
      | else-is_ok w ↦ rw (w.self-inside-is, ← c.self.view_is) c.put-put.ensures
    ]
