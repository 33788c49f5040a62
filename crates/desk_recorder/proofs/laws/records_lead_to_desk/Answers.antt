use Rattle.std.proofs.Common.{[]}
use Rattle.desk_recorder.proofs.Composed.{leads_on}
use Rattle.desk_recorder.proofs.Histories.{history_of, turns_lead}
use Rattle.desk_recorder.proofs.laws.records_lead_to_desk.Goals as goal

pub returns-clause-opened : goal.returns-clause-opened
returns-clause-opened g c = history_of

pub returns-clause-restarted : goal.returns-clause-restarted
returns-clause-restarted g c history keys before after old new led records on =
    leads_on g.Q.RecordQueue.taken g.Q.RecordQueue.has_failed before.queue after.queue history keys [] old new led (records.records on)

pub returns-clause-answered : goal.returns-clause-answered
returns-clause-answered g c = turns_lead g.N.Runner.starts g.N.Runner.looks g.N.Runner.takes g.Q.RecordQueue.taken g.Q.RecordQueue.has_failed
