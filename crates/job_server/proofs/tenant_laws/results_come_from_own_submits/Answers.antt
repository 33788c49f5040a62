use Rattle.job_server.proofs.OwnSubmits.{own_tells, own_comes, own_refuses, own_stays, own_rises}
use Rattle.job_server.proofs.tenant_laws.results_come_from_own_submits.Goals as goal

pub returns-clause-told : goal.returns-clause-told
returns-clause-told c = λ keep place names history before after e number h there. own_tells keep place names history h there before after e number

pub returns-clause-submitted : goal.returns-clause-submitted
returns-clause-submitted c = λ keep place names history before after e number h there. own_comes keep place names history h there before after e number

pub returns-clause-refused : goal.returns-clause-refused
returns-clause-refused c = λ keep place names history before after e number code h there. own_refuses keep place names history h there before after e number code

pub returns-clause-stays : goal.returns-clause-stays
returns-clause-stays c = λ keep place names history before between after e f number h there. own_stays keep place names history h there before between after e f number

pub returns-clause-rises : goal.returns-clause-rises
returns-clause-rises c = λ keep place names history before between after e f m n h there. own_rises keep place names history h there before between after e f m n
