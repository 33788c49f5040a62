use Rattle.tenant_desks.proofs.AloneLemmas.{as_many_desks, each_alone, are_told_why}
use Rattle.tenant_desks.proofs.laws.each_tenant_is_alone.Goals as goal

pub returns-clause-desks : goal.returns-clause-desks
returns-clause-desks g c = λ names firsts. as_many_desks g.N.Runner.starts g.N.Runner.looks g.N.Runner.takes firsts names

pub returns-clause-alone : goal.returns-clause-alone
returns-clause-alone g c = λ names firsts. each_alone g.N.Runner.starts g.N.Runner.looks g.N.Runner.takes firsts names

pub returns-clause-refused : goal.returns-clause-refused
returns-clause-refused g c = λ names firsts. are_told_why g.N.Runner.starts g.N.Runner.looks g.N.Runner.takes firsts names
