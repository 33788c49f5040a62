use Rattle.bpfjobs_cli.proofs.EnteredLemmas.{refuses_credit, refuses_jobs, refuses_other, takes_nothing}
use Rattle.bpfjobs_cli.proofs.tenants.with_said.Goals as goal

pub returns-in-Nothing-clause-ok : goal.returns-in-Nothing-clause-ok
returns-in-Nothing-clause-ok c = takes_nothing _ c.args.said c.in-Nothing.is

pub returns-in-Other-clause-err : goal.returns-in-Other-clause-err
returns-in-Other-clause-err c = refuses_other _ c.args.said c.in-Other.is

pub returns-in-NoJobs-clause-err : goal.returns-in-NoJobs-clause-err
returns-in-NoJobs-clause-err c = refuses_jobs _ c.args.said c.in-NoJobs.is

pub returns-in-NoCredit-clause-err : goal.returns-in-NoCredit-clause-err
returns-in-NoCredit-clause-err c = refuses_credit _ c.args.said c.in-NoCredit.is
