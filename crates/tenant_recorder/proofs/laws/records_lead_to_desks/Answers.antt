use Rattle.tenant_recorder.proofs.Recovered.{answers_lead, answers_recorded, led_at}
use Rattle.tenant_recorder.proofs.laws.records_lead_to_desks.Goals as goal

pub returns-clause-restarted : goal.returns-clause-restarted
returns-clause-restarted g c = led_at g.N.Runner.starts g.N.Runner.looks g.N.Runner.takes g.Q.RecordQueue.taken g.Q.RecordQueue.has_failed

pub returns-clause-recorded : goal.returns-clause-recorded
returns-clause-recorded g c = answers_recorded g.N.Runner.starts g.N.Runner.looks g.N.Runner.takes g.Q.RecordQueue.taken g.Q.RecordQueue.has_failed

pub returns-clause-answered : goal.returns-clause-answered
returns-clause-answered g c = answers_lead g.N.Runner.starts g.N.Runner.looks g.N.Runner.takes g.Q.RecordQueue.taken g.Q.RecordQueue.has_failed
