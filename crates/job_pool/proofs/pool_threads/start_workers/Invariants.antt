use Rattle.std.proofs.Common.{◌≤◌, length}
use Rattle.job_pool.proofs.pool_threads.start_workers.Given as goal

abbrev pub invariant-starting : goal.invariant-starting
invariant-starting g l = l.started ≤ length l.yielded
