use Rattle.tenant_desks.proofs.KeyedDoors.{one_each, told_again}
use Rattle.tenant_desks.proofs.laws.one_key_one_job.Goals as goal

pub returns-clause-keyed : goal.returns-clause-keyed
returns-clause-keyed g c = λ names firsts keep history end place there. one_each g.N.Runner.starts g.N.Runner.looks g.N.Runner.takes names firsts keep place there history end

pub returns-clause-again : goal.returns-clause-again
returns-clause-again g c = told_again g.N.Runner.starts g.N.Runner.looks g.N.Runner.takes
