use Rattle.job_pools.proofs.HeldByLine.{held_within}
use Rattle.job_pools.proofs.line_laws.lines_stay_within_limits.Goals as goal

pub returns : goal.returns
returns g c = λ limits runner held line runs below limited.
    held_within g.N.Runner.starts g.N.Runner.looks g.N.Runner.takes limits runner held line runs limited
