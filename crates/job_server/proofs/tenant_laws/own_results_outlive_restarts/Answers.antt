use Rattle.job_server.proofs.TenantsFromJournal.{open_comes_there, recorded_tenants, stays_there, tells_there}
use Rattle.job_server.proofs.tenant_laws.own_results_outlive_restarts.Goals as goal

pub returns-clause-served : goal.returns-clause-served
returns-clause-served g c journal_of journals states doors bounds sessions may_stop outcome s =
    recorded_tenants g.Q.RecordQueue.taken g.Q.RecordQueue.has_failed journal_of journals states doors bounds sessions may_stop outcome s

pub returns-clause-told : goal.returns-clause-told
returns-clause-told g c states doors bounds history before after place state changes e number h few at led is asks =
    tells_there states doors bounds history h few place state at changes led before after e number is asks

pub returns-clause-open_again : goal.returns-clause-open_again
returns-clause-open_again g c states doors bounds history before after place state changes e number job h few at led is asks held f =
    open_comes_there states doors bounds history h few place state at changes led before after e number job is asks held f

pub returns-clause-stays : goal.returns-clause-stays
returns-clause-stays g c states doors bounds history before between after place state changes e f number h few at led is asks_e asks_f =
    stays_there states doors bounds history h few place state at changes led before between after e f number is asks_e asks_f
