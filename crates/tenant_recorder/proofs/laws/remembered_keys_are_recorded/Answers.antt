use Rattle.tenant_recorder.proofs.KeysRecorded.{keys_recorded, told_again}
use Rattle.tenant_recorder.proofs.laws.remembered_keys_are_recorded.Goals as goal

pub returns-clause-recorded : goal.returns-clause-recorded
returns-clause-recorded g c = keys_recorded g.N.Runner.starts g.N.Runner.looks g.N.Runner.takes g.Q.RecordQueue.taken g.Q.RecordQueue.has_failed

pub returns-clause-again : goal.returns-clause-again
returns-clause-again g c = told_again g.N.Runner.starts g.N.Runner.looks g.N.Runner.takes g.Q.RecordQueue.taken g.Q.RecordQueue.has_failed
