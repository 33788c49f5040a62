use Rattle.job_server.proofs.FromSubmit.{adds_up, host_tells, host_comes, host_refuses, host_stays}
use Rattle.job_server.proofs.laws.results_come_from_submits.Goals as goal

pub returns-clause-told : goal.returns-clause-told
returns-clause-told c = host_tells

pub returns-clause-submitted : goal.returns-clause-submitted
returns-clause-submitted c = host_comes

pub returns-clause-refused : goal.returns-clause-refused
returns-clause-refused c = host_refuses

pub returns-clause-adds_up : goal.returns-clause-adds_up
returns-clause-adds_up c = adds_up

pub returns-clause-stays : goal.returns-clause-stays
returns-clause-stays c = host_stays
