use Rattle.desk_journal.proofs.DeskLemmas.{on_ok}
use Rattle.desk_journal.proofs.journaled_desk.JournaledDesk.report.Goals as goal

pub returns-clause-ok : goal.returns-clause-ok
returns-clause-ok c = on_ok c.finish.result (λ e. (c.in-Ok.report, c.in-Ok.ensures.same, e)) c.finish.ensures.ok
