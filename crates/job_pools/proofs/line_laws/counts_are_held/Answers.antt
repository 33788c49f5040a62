use Rattle.job_pools.proofs.HeldByLine.{counts_in_run}
use Rattle.job_pools.proofs.line_laws.counts_are_held.Goals as goal

pub returns : goal.returns
returns g c = λ limits runner held line runs below.
    (counts_in_run g.N.Runner.starts g.N.Runner.looks g.N.Runner.takes limits runner held runs).each line below
