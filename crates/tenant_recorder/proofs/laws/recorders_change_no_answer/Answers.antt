use Rattle.tenant_recorder.proofs.Forgotten.{forgotten_anew}
use Rattle.tenant_recorder.proofs.Recovered.{same_answers, same_history}
use Rattle.tenant_recorder.proofs.laws.recorders_change_no_answer.Goals as goal

pub returns-clause-begun : goal.returns-clause-begun
returns-clause-begun g c = forgotten_anew

pub returns-clause-answered : goal.returns-clause-answered
returns-clause-answered g c = same_answers g.N.Runner.starts g.N.Runner.looks g.N.Runner.takes g.Q.RecordQueue.taken g.Q.RecordQueue.has_failed

pub returns-clause-history : goal.returns-clause-history
returns-clause-history g c = same_history g.N.Runner.starts g.N.Runner.looks g.N.Runner.takes g.Q.RecordQueue.taken g.Q.RecordQueue.has_failed
