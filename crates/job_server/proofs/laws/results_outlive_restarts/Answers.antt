use Rattle.job_server.proofs.FromJournal.{open_comes, recorded_history, restarted_stays, restarted_tells}
use Rattle.job_server.proofs.laws.results_outlive_restarts.Goals as goal

pub returns-clause-served : goal.returns-clause-served
returns-clause-served g c = recorded_history g.Q.RecordQueue.taken g.Q.RecordQueue.has_failed

pub returns-clause-told : goal.returns-clause-told
returns-clause-told g c changes state bounds before after e number led h asks =
    restarted_tells g.Q.RecordQueue.taken g.Q.RecordQueue.has_failed changes state led bounds before after e number h asks

pub returns-clause-open_again : goal.returns-clause-open_again
returns-clause-open_again g c changes state bounds before after e number job led h asks held f =
    open_comes g.Q.RecordQueue.taken g.Q.RecordQueue.has_failed changes state led bounds before after e number job h asks held f

pub returns-clause-stays : goal.returns-clause-stays
returns-clause-stays g c changes state bounds before between after e f number led h asks_e asks_f =
    restarted_stays g.Q.RecordQueue.taken g.Q.RecordQueue.has_failed changes state led bounds before between after e f number h asks_e asks_f
