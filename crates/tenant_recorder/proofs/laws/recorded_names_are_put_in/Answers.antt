use Rattle.tenant_recorder.proofs.RecordedNames.{own_names_recorded}
use Rattle.tenant_recorder.proofs.laws.recorded_names_are_put_in.Goals as goal

pub returns : goal.returns
returns g c = λ history s t. own_names_recorded g.N.Runner.starts g.N.Runner.looks g.N.Runner.takes g.Q.RecordQueue.taken g.Q.RecordQueue.has_failed history s t
